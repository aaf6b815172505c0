-- RTP datagrams change no flow.
use Rattle.std.proofs.Common.{◌≡◌, ℕ, Bool, true, false, cond, List, [], ◌∷◌, ◌++◌, refl, sym, ap, ◌∙◌}
use Rattle.std.specs.Prelude.{nat_lt, not, length}
use Rattle.std.proofs.lemmas.Bool.{ltb-true}
use Rattle.mg_words.specs.Limits.{message_limit}
use Rattle.mg_words.specs.declared.peer.Peer.{Peer}
use Rattle.mg_core.specs.declared.event.Event.{Event}
use Rattle.mg_rooms.specs.Consistent.{IsConsistent}
use Rattle.mg_engine.specs.Flow.{flow}
use Rattle.mg_core.specs.declared.event.Event.TheVariants.{Control, Media, Tick}
use Rattle.mg_core.specs.ExceptReceived.{AgreeExceptReceived, lasting}
use Rattle.mg_core.specs.Flows.{changes, changes_by, listeners_of}
use Rattle.mg_core.specs.Journal.{AgreementHasSameFlows, AgreementHasSameReports, ReportsOnlyChanges}
use Rattle.mg_core.specs.World.{World, capped}
use Rattle.mg_core.proofs.ApartLemmas.{SameEventKeepsAgreement}
use Rattle.mg_core.proofs.QuietLemmas.{only_changes_are_reported}
use Rattle.mg_core.proofs.ReceivedLemmas.{ConsistentSteps, control_agrees, media_agrees, oversized_agrees, tick_agrees, agrees_itself}

-- ## Flows without RTP datagrams

pub agreement_has_same_flows : AgreementHasSameFlows
agreement_has_same_flows a b talker listener h =
    λ i. flow (record a.gateway { rooms = h.rooms i; edits = h.edits i }) talker listener

-- ## Reports without RTP datagrams

same_listeners : (a b : World) → AgreeExceptReceived a b → listeners_of a.gateway ≡ listeners_of b.gateway
same_listeners a b h = λ i. listeners_of (record a.gateway { rooms = h.rooms i; edits = h.edits i })

-- If two worlds agree except for what was received, and so do the worlds after them, the same changes are reported for
-- both.
same_changes : (a b x y : World) → AgreeExceptReceived a b → AgreeExceptReceived x y →
    changes_by a x ≡ changes_by b y
same_changes a b x y h k =
    λ i. changes (capped (k.ticks i)) (same_listeners a b h i) (same_listeners x y k i)

no_change : (a x : World) → IsConsistent a.gateway.rooms → AgreeExceptReceived a x → changes_by a x ≡ []
no_change a x consistent h =
    only_changes_are_reported (capped x.tally.ticks) a.gateway x.gateway consistent (same_listeners a x h)

agrees_back : (a b : World) → AgreeExceptReceived a b → AgreeExceptReceived b a
agrees_back a b h = record {
  config = sym h.config;
  rooms = sym h.rooms;
  edits = sym h.edits;
  media = sym h.media;
  replies = sym h.replies;
  ticks = sym h.ticks;
}

abbrev SameReports : (a b x y : World) (events : List Event) → Type 0
SameReports a b x y events = (s t : List ℕ) → IsConsistent a.gateway.rooms → AgreeExceptReceived a b →
    ReportsOnlyChanges a events s x → ReportsOnlyChanges b (lasting events) t y → s ≡ t

module _ (event : SameEventKeepsAgreement) (keeps : ConsistentSteps) where
  -- A control datagram, which only the first world receives if it is oversized.
  over_control : (a b x y : World) (source : Peer) (bytes : List ℕ) (events : List Event) →
      ((v w : World) → SameReports v w x y events) → (is_big : Bool) → nat_lt message_limit (length bytes) ≡ is_big →
      (s t : List ℕ) → IsConsistent a.gateway.rooms → AgreeExceptReceived a b →
      ReportsOnlyChanges a (Control source bytes ∷ events) s x →
      ReportsOnlyChanges b (cond (not is_big) (Control source bytes ∷ lasting events) (lasting events)) t y → s ≡ t
  over_control a b x y source bytes events more true big s t consistent h (sent, others, next, step, rest, is) run =
      let long = ltb-true message_limit (length bytes) big in
      let stays = oversized_agrees a a next source bytes sent long (agrees_itself a) step in
      is ∙ ap (λ (l : List ℕ). l ++ others) (no_change a next consistent (agrees_back next a stays)) ∙
      more next b others t (keeps a (Control source bytes) sent next consistent step)
      (oversized_agrees a b next source bytes sent long h step) rest run
  over_control a b x y source bytes events more false big s t consistent h
      (sent, others, next, step, rest, is) (also, texts, after, too, tail, its) =
      let agree = control_agrees event a b next after source bytes sent also h step too in
      let same = more next after others texts (keeps a (Control source bytes) sent next consistent step) agree rest
      tail in
      is ∙ ap (λ (l : List ℕ). l ++ others) (same_changes a b next after h agree) ∙
      ap (λ (l : List ℕ). changes_by b after ++ l) same ∙ sym its

  pub agreement_has_same_reports : AgreementHasSameReports
  agreement_has_same_reports a b x y [] s t consistent h (none, is) (nothing, its) = none ∙ sym nothing
  agreement_has_same_reports a b x y (Control source bytes ∷ events) s t consistent h run runs =
      over_control a b x y source bytes events (λ v w. agreement_has_same_reports v w x y events)
      (nat_lt message_limit (length bytes)) refl s t consistent h run runs
  agreement_has_same_reports a b x y (Media port source bytes ∷ events) s t consistent h
      (sent, others, next, step, rest, is) run =
      let stays = media_agrees a a next port source bytes sent (agrees_itself a) step in
      is ∙ ap (λ (l : List ℕ). l ++ others) (no_change a next consistent (agrees_back next a stays)) ∙
      agreement_has_same_reports next b x y events others t (keeps a (Media port source bytes) sent next consistent step)
      (media_agrees a b next port source bytes sent h step) rest run
  agreement_has_same_reports a b x y (Tick ∷ events) s t consistent h
      (sent, others, next, step, rest, is) (also, more, after, too, tail, its) =
      let agree = tick_agrees event a b next after sent also h step too in
      let same = agreement_has_same_reports next after x y events others more
      (keeps a Tick sent next consistent step) agree rest tail in
      is ∙ ap (λ (l : List ℕ). l ++ others) (same_changes a b next after h agree) ∙
      ap (λ (l : List ℕ). changes_by b after ++ l) same ∙ sym its
