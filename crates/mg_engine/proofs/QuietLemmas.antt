-- What a quiet engine represents.
use Rattle.mg_engine.proofs.Common.{◌≡◌, ◌≢◌, ℕ, ◌&&◌, eqb, eq-eqb, eqb-true, ne_eqb, Bool, true, false, cond, List, [], ◌∷◌, map, Option, Some, None, refl, sym, ap, subst, ◌∙◌, arith, inl, inr, option_map, length-replicate, IsTrue, Record, record_at, Place, Gateway, TerminationMedia, ContextEdit, Apply, Config, media_of, EngineState, StandsFor, ShareContext, IsMediaOf, media_at, find, same_Some, frame_of_row, RoomFlows, hears, place_of, may_hear, but_received, SlotMedia, has, cases_Bool, nat_tests, Isolate, Oneway, Bothway, and-false, IsSound}
use Rattle.mg_playout.specs.Playout.{depth_of, first_list}
use Rattle.mg_playout.specs.Places.{empty_places}
use Rattle.mg_engine.specs.Flow.{share_context}
use Rattle.mg_engine.specs.Gateway as gateways
use Rattle.mg_engine.specs.Restored.{emptied, media_without_speech, without_speech}
use Rattle.mg_engine.specs.aids.Quiet.{AgreeInCheckpoint, HasNoSpeech, HaveDepths, IsQuiet, sent_of}
use Rattle.mg_engine.specs.declared.sent_media.SentMedia.{SentMedia}
use Rattle.mg_engine.proofs.GatewayLemmas.{found_in_map, has_media}
use Rattle.mg_engine.proofs.MemberLemmas.{no_record}
use Rattle.mg_engine.proofs.PlaceLemmas.{one_record}
use Rattle.mg_rooms.proofs.CountLemmas.{all-map}
use Rattle.mg_words.specs.OptionSteps.{◌>>=◌}
use Rattle.mg_words.specs.declared.stats.Stats.{Stats}
use Rattle.std.proofs.lemmas.List.Elements.{recursion_from_All}
use Rattle.std.specs.List.{AllByRecursion}

-- ## An engine without terminations

pub starts_quiet : (k : EngineState) (config : Config) → StandsFor k (gateways.start_of config) → IsQuiet k
starts_quiet k config h n r found =
    absurd (no_record r (sym found ∙ ap (λ w. record_at w n) (sym h.rooms)))

-- ## Gateways with the same checkpoint

numbers_kept : (ms : List TerminationMedia) → map (λ s. s.number) (map media_without_speech ms) ≡ map (λ s. s.number) ms
numbers_kept [] = refl
numbers_kept (m ∷ ms) = ap (λ ns. m.number ∷ ns) (numbers_kept ms)

was_there : (o : Option TerminationMedia) (s : TerminationMedia) → option_map media_without_speech o ≡ Some s →
    (t : TerminationMedia) × (o ≡ Some t) × (s ≡ media_without_speech t)
was_there (Some t) s is = (t, refl, sym (same_Some (media_without_speech t) s is))
was_there None s is = absurd (cc is)

same_counts : (a b c : Stats) → a ≡ but_received a → a ≡ b → b.ps ≡ c.ps → b.os ≡ c.os → a ≡ but_received c
same_counts a b c none same ps os = none ∙ ap but_received same ∙
    (λ i. record { ps = ps i; pr = 0; os = os i; or_ = 0 })

-- The media of a slot that received nothing are those of a termination that sent the same, without its speech.
quiet_media : (config : Config) (m : SlotMedia) (row : _) (q u t : TerminationMedia) (depth : ℕ) → HasNoSpeech depth q →
    IsMediaOf config m row q → IsMediaOf config m row u → sent_of config u ≡ sent_of config t → depth_of t.play ≡ depth →
    IsMediaOf config m row (media_without_speech t)
quiet_media config m row q u t depth none mine of sent deep = record {
  play = mine.play ∙ none.play ∙ ap (λ (d : ℕ). record first_list { places = empty_places d }) (sym deep);
  frame = mine.frame ∙ none.frame;
  stats = same_counts m.stats u.stats t.stats (mine.stats ∙ none.stats ∙ ap but_received (sym mine.stats)) of.stats
      (ap (λ (x : SentMedia). x.sent) sent) (ap (λ (x : SentMedia). x.octets) sent);
  timestamp = of.timestamp ∙ ap (λ (x : SentMedia). x.timestamp) sent;
  sequence = of.sequence ∙ ap (λ (x : SentMedia). x.sequence) sent;
  is_sending = of.is_sending ∙ ap (λ (x : SentMedia). x.is_sending) sent;
}

shares : (k : EngineState) (w : Gateway) (talker listener : ℕ) (t l : Record) (p q : Place) → w.rooms ≡ k.rooms →
    ShareContext k.rooms talker listener t l p q → IsTrue (share_context w talker listener)
shares k w talker listener t l p q same s =
    let speaks = subst (λ x. record_at x talker ≡ Some t) (sym same) s.first.found in
    let listens = subst (λ x. record_at x listener ≡ Some l) (sym same) s.second.found in
    rw (speaks, listens, eq-eqb t.context l.context s.same, ne_eqb talker listener s.apart) refl

pub quiet_engine : (k : EngineState) (b w : Gateway) → IsQuiet k → StandsFor k b → AgreeInCheckpoint b w →
    HaveDepths w → StandsFor k (without_speech w)
quiet_engine k b w quiet h agree depths =
    let config : w.config ≡ k.config = sym agree.config ∙ h.config in
    let rooms : w.rooms ≡ k.rooms = sym agree.rooms ∙ h.rooms in
    record {
      config = config;
      rooms = rooms;
      numbers = numbers_kept w.media ∙ sym agree.numbers ∙ h.numbers;
      media = λ n r s found there.
          let (t, was, is) = was_there (media_of w n) s
          (sym (found_in_map (λ s. s.number) media_without_speech n w.media (λ x. refl)) ∙ there) in
          let (u, at, of) = has_media k b n r h found in
          let (q, none, mine) = quiet n r found in
          let sent : sent_of k.config u ≡ sent_of k.config t =
          ap (λ c. sent_of c u) (sym h.config) ∙ agree.sent n u t at was ∙ ap (λ c. sent_of c t) config in
          rw is (quiet_media k.config (media_at k.media r.slot) (frame_of_row k.sums r.slot) q u t r.depth none mine of
          sent (depths n r t (ap (λ x. record_at x n) rooms ∙ found) was));
      hears = λ talker listener t l p q s.
          h.hears talker listener t l p q s
          ∙ agree.hears talker listener (shares k w talker listener t l p q rooms s);
    }

-- ## A gateway that a quiet engine represents

-- Media for a termination that has received nothing.
abbrev Chosen : EngineState → Record → Type 0
Chosen k r = (s : TerminationMedia) × (s.number ≡ r.number) × HasNoSpeech r.depth s
    × IsMediaOf k.config (media_at k.media r.slot) (frame_of_row k.sums r.slot) s

choose : (k : EngineState) (r : Record) → IsQuiet k → record_at k.rooms r.number ≡ Some r → Chosen k r
choose k r quiet found =
    let (s, none, mine) = quiet r.number r found in (
      record s { number = r.number },
      refl,
      record { play = none.play; frame = none.frame; stats = none.stats },
      record {
        play = mine.play;
        frame = mine.frame;
        stats = mine.stats;
        timestamp = mine.timestamp;
        sequence = mine.sequence;
        is_sending = mine.is_sending;
      },
    )

module _ (k : EngineState) where
  chosen_media : (rs : List Record) → AllByRecursion (Chosen k) rs → List TerminationMedia
  chosen_media [] all = []
  chosen_media (r ∷ rs) all = all.0.0 ∷ chosen_media rs all.1

  chosen_numbers : (rs : List Record) (all : AllByRecursion (Chosen k) rs) →
      map (λ s. s.number) (chosen_media rs all) ≡ map (λ r. r.number) rs
  unfolding chosen_media
  chosen_numbers [] all = refl
  chosen_numbers (r ∷ rs) all = λ i. all.0.1 i ∷ chosen_numbers rs all.1 i

  -- Chosen media that are found by a number belong to the termination with this number, and match what is stored in its
  -- slot.
  chosen_for : (n : ℕ) (rs : List Record) (all : AllByRecursion (Chosen k) rs) (s : TerminationMedia) →
      find (λ s. eqb s.number n) (chosen_media rs all) ≡ Some s → (r : Record)
      × (find (λ r. eqb r.number n) rs ≡ Some r) × HasNoSpeech r.depth s
      × IsMediaOf k.config (media_at k.media r.slot) (frame_of_row k.sums r.slot) s
  unfolding chosen_media
  chosen_for n [] all s found = absurd (cc found)
  chosen_for n (r ∷ rs) all s found = elim (cases_Bool (eqb r.number n)) [
    | inl e ↦
        let mine : eqb all.0.0.number n ≡ true = ap (λ (m : ℕ). eqb m n) all.0.1 ∙ e in
        let here : all.0.0 ≡ s = same_Some all.0.0 s (rw mine at found) in (
          r,
          rw e refl,
          subst (HasNoSpeech r.depth) here all.0.2,
          subst (IsMediaOf k.config (media_at k.media r.slot) (frame_of_row k.sums r.slot)) here all.0.3,
        )
    | inr e ↦
        let other : eqb all.0.0.number n ≡ false = ap (λ (m : ℕ). eqb m n) all.0.1 ∙ e in
        let (q, there, none, mine) = chosen_for n rs all.1 s (rw other at found) in
        (q, rw e there, none, mine)
  ]

  emptied_is : (depth : ℕ) (s : TerminationMedia) → HasNoSpeech depth s → media_without_speech s ≡ s
  emptied_is depth s none =
      let deep : depth_of s.play ≡ depth = ap depth_of none.play ∙ length-replicate depth None in
      let play : emptied s.play ≡ s.play =
      ap (λ (d : ℕ). record first_list { places = empty_places d }) deep ∙ sym none.play in
      λ i. record s { play = play i; frame = sym none.frame i; stats = sym none.stats i }

  chosen_quiet : (rs : List Record) (all : AllByRecursion (Chosen k) rs) →
      map media_without_speech (chosen_media rs all) ≡ chosen_media rs all
  unfolding chosen_media
  chosen_quiet [] all = refl
  chosen_quiet (r ∷ rs) all = λ i. emptied_is r.depth all.0.0 all.0.2 i ∷ chosen_quiet rs all.1 i

-- ## Edits that say who hears whom

-- An edit that says the word on two terminations, in both directions.
speak : (a b : ℕ) → Bool → Bool → ContextEdit
speak a b true true = Apply (a ∷ []) (b ∷ []) Bothway
speak a b true false = Apply (a ∷ []) (b ∷ []) Oneway
speak a b false true = Apply (b ∷ []) (a ∷ []) Oneway
speak a b false false = Apply (a ∷ []) (b ∷ []) Isolate

module _ (f : ℕ → ℕ → Bool) where
  say_of : ℕ → List ℕ → List ContextEdit → List ContextEdit
  say_of a [] es = es
  say_of a (b ∷ bs) es = speak a b (f a b) (f b a) ∷ say_of a bs es

  say_all : List ℕ → List ℕ → List ContextEdit
  say_all [] bs = []
  say_all (a ∷ talkers) bs = say_of a bs (say_all talkers bs)

  spoken : (a b t l : ℕ) (x y : Bool) (es : List ContextEdit) → t ≢ l → may_hear (speak a b x y ∷ es) t l
      ≡ cond (eqb a t && eqb b l) x (cond (eqb b t && eqb a l) y (may_hear es t l))
  unfolding speak
  spoken a b t l true true es apart = grind (arith, nat_tests)
  spoken a b t l true false es apart = grind (arith, nat_tests)
  spoken a b t l false true es apart = grind (arith, nat_tests)
  spoken a b t l false false es apart = grind (arith, nat_tests)

  -- A word that was said stays the last word.
  stays_said : (a : ℕ) (bs : List ℕ) (es : List ContextEdit) (t l : ℕ) → t ≢ l → may_hear es t l ≡ f t l →
      may_hear (say_of a bs es) t l ≡ f t l
  unfolding say_of
  stays_said a [] es t l apart said = said
  stays_said a (b ∷ bs) es t l apart said =
      let rest = stays_said a bs es t l apart said in
      spoken a b t l (f a b) (f b a) (say_of a bs es) apart ∙ settled a b t l rest
    where
      settled : (a b t l : ℕ) {e : Bool} → e ≡ f t l → cond (eqb a t && eqb b l) (f a b)
          (cond (eqb b t && eqb a l) (f b a) e) ≡ f t l
      settled a b t l h = grind (arith, nat_tests, eqb-true a t, eqb-true b l, eqb-true b t, eqb-true a l)

  is_said : (bs : List ℕ) (es : List ContextEdit) (t l : ℕ) → t ≢ l → has bs l ≡ true →
      may_hear (say_of t bs es) t l ≡ f t l
  unfolding say_of
  is_said [] es t l apart h = absurd (cc h)
  is_said (b ∷ bs) es t l apart h = spoken t b t l (f t b) (f b t) (say_of t bs es) apart ∙ elim (cases_Bool (eqb b l)) [
    | inl e ↦ rw (eq-eqb t t refl, e) (ap (f t) (eqb-true b l e))
    | inr e ↦ rw (eq-eqb t t refl, e, ne_eqb t l apart, and-false (eqb b t)) (is_said bs es t l apart (rw e at h))
  ]

  all_said : (talkers bs : List ℕ) (t l : ℕ) → t ≢ l → has talkers t ≡ true → has bs l ≡ true →
      may_hear (say_all talkers bs) t l ≡ f t l
  unfolding say_all
  all_said [] bs t l apart mine other = absurd (cc mine)
  all_said (a ∷ talkers) bs t l apart mine other = elim (cases_Bool (eqb a t)) [
    | inl e ↦ rw (eqb-true a t e) (is_said bs (say_all talkers bs) t l apart other)
    | inr e ↦ stays_said a bs (say_all talkers bs) t l apart (all_said talkers bs t l apart (rw e at mine) other)
  ]

-- ## The gateway

heard_at : List RoomFlows → Option Place → Option Place → Bool
heard_at table (Some p) (Some q) = hears table p q
heard_at table (Some p) None = false
heard_at table None q = false

-- Whether the table lets the listener hear the talker.
abbrev heard_by : EngineState → ℕ → ℕ → Bool
heard_by k talker listener =
    heard_at k.flows (record_at k.rooms talker >>= place_of k.rooms) (record_at k.rooms listener >>= place_of k.rooms)

heard_is : (k : EngineState) (talker listener : ℕ) (t l : Record) (p q : Place) →
    ShareContext k.rooms talker listener t l p q → heard_by k talker listener ≡ hears k.flows p q
unfolding heard_at
heard_is k talker listener t l p q s = rw (s.first.found, s.second.found, s.first.place, s.second.place) refl

listed : (n : ℕ) (rs : List Record) (r : Record) → find (λ r. eqb r.number n) rs ≡ Some r →
    has (map (λ r. r.number) rs) n ≡ true
listed n [] r h = absurd (cc h)
listed n (x ∷ xs) r h = elim (cases_Bool (eqb x.number n)) [
  | inl e ↦ rw e refl
  | inr e ↦ rw e (listed n xs r (rw e at h))
]

all_chosen : (k : EngineState) → IsSound k.rooms → IsQuiet k → AllByRecursion (Chosen k) k.rooms.terminations
all_chosen k sound quiet =
    all-map (λ r. record_at k.rooms r.number ≡ Some r) (Chosen k) k.rooms.terminations
    (λ r found. choose k r quiet found)
    (recursion_from_All (λ r. record_at k.rooms r.number ≡ Some r) k.rooms.terminations
    (λ i d lt. sound.by_number i d lt))

abbrev represented : (k : EngineState) → IsSound k.rooms → IsQuiet k → Gateway
represented k sound quiet =
    let numbers = map (λ (r : Record). r.number) k.rooms.terminations in
    record {
      config = k.config;
      rooms = k.rooms;
      media = chosen_media k k.rooms.terminations (all_chosen k sound quiet);
      edits = say_all (heard_by k) numbers numbers;
    }

pub represents : (k : EngineState) → IsSound k.rooms → IsQuiet k → (w : Gateway) × StandsFor k w × HaveDepths w ×
    (without_speech w ≡ w)
represents k sound quiet =
    let rs = k.rooms.terminations in
    let all = all_chosen k sound quiet in
    let numbers = map (λ (r : Record). r.number) rs in (
      represented k sound quiet,
      record {
        config = refl;
        rooms = refl;
        numbers = chosen_numbers k rs all;
        media = λ n r s found there.
            let (q, at, none, mine) = chosen_for k n rs all s there in
            subst (λ (x : Record). IsMediaOf k.config (media_at k.media x.slot) (frame_of_row k.sums x.slot) s)
            (one_record k.rooms n n q r at found refl) mine;
        hears = λ talker listener t l p q s.
            sym (heard_is k talker listener t l p q s) ∙
            sym (all_said (heard_by k) numbers numbers talker listener s.apart (listed talker rs t s.first.found)
            (listed listener rs l s.second.found));
      },
      (λ n r s found there.
          let (q, at, none, mine) = chosen_for k n rs all s there in
          ap depth_of none.play ∙ length-replicate q.depth None ∙
          ap (λ (x : Record). x.depth) (one_record k.rooms n n q r at found refl)),
      ap (λ (ms : List TerminationMedia). record (represented k sound quiet) { media = ms }) (chosen_quiet k rs all),
    )
