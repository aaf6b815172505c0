-- Lines determine what they say.
use Rattle.std.proofs.Common.{◌≡◌, ℕ, ◌==◌, Bool, true, false, List, [], ◌∷◌, ◌++◌, codes, get_or, Option, refl, sym, ap, subst, ◌∙◌, append_assoc}
use Rattle.std.proofs.lemmas.List.{append_cancel_left}
use Rattle.mg_words.specs.declared.mode.Mode.{Mode}
use Rattle.mg_sdp.specs.declared.chosen.Chosen.{Chosen}
use Rattle.mg_rooms.specs.declared.record.Record.{Record}
use Rattle.mg_rooms.specs.declared.context.Context.{Context}
use Rattle.mg_kept.specs.KeptReplies.{KeptReply}
use Rattle.mg_engine.specs.declared.sent_media.SentMedia.{SentMedia}
use Rattle.mg_checkpoint.specs.Said.{SaidTermination}
use Rattle.mg_checkpoint.specs.aids.Forms.{numbered, closing, names}
use Rattle.mg_checkpoint.specs.aids.Text.{context_line, place_text, stream_text, descriptors_text, record_text, sending_text, sent_text, muted_line, termination_lines, reply_line}
use Rattle.mg_checkpoint.proofs.EscapeLemmas.{sender_tells, text_tells}
use Rattle.mg_checkpoint.proofs.FormLemmas.{Tells, IsCode, both, apart, after, part, mapped, by_reading, starts, numbered_tells, closing_tells, many, list_and, never_starts}
use Rattle.mg_checkpoint.proofs.MediaLemmas.{media_tells, mode_tells}

-- ## Records

name_begins : (n : ℕ) (x : List ℕ) → starts (λ b. b == 82) (numbered (codes "RTP/") n ++ x) ≡ true
name_begins n x = refl

abbrev SamePlace : Record → Record → Type 0
SamePlace a b = (a.number ≡ b.number) × ((a.context ≡ b.context) × ((a.slot ≡ b.slot) × (a.seat ≡ b.seat)))

abbrev SameStream : Record → Record → Type 0
SameStream a b = (a.mode ≡ b.mode) × (a.depth ≡ b.depth)

abbrev SameDescriptors : Record → Record → Type 0
SameDescriptors a b = (a.local ≡ b.local) × (a.remote ≡ b.remote)

abbrev record_with : ℕ → ℕ → ℕ → ℕ → Mode → ℕ → Option Chosen → Option Chosen → Record
record_with number context slot seat mode depth local remote =
    record {
      number = number;
      context = context;
      slot = slot;
      seat = seat;
      mode = mode;
      depth = depth;
      local = local;
      remote = remote;
    }

same_record : (a b : Record) → SamePlace a b × (SameStream a b × SameDescriptors a b) → a ≡ b
same_record a b ((c, (d, (e, f))), ((g, h), (i, j))) =
    let same : record_with a.number a.context a.slot a.seat a.mode a.depth a.local a.remote
    ≡ record_with b.number b.context b.slot b.seat b.mode b.depth b.local b.remote = cc in
    same

place_tells : Tells place_text SamePlace
place_tells =
    both (part (λ (r : Record). r.number) (numbered_tells (codes "termination RTP/")))
    (both (part (λ (r : Record). r.context) (numbered_tells (codes "context ")))
    (both (part (λ (r : Record). r.slot) (numbered_tells (codes "slot ")))
    (part (λ (r : Record). r.seat) (numbered_tells (codes "seat ")))))

stream_tells : Tells stream_text SameStream
stream_tells =
    after (codes "mode ") (both (part (λ (r : Record). r.mode) mode_tells)
    (after (codes " ") (part (λ (r : Record). r.depth) (numbered_tells (codes "depth ")))))

descriptors_tells : Tells descriptors_text SameDescriptors
descriptors_tells =
    after (codes "local ") (both (part (λ (r : Record). r.local) media_tells)
    (after (codes "remote ") (part (λ (r : Record). r.remote) media_tells)))

record_tells : IsCode record_text
record_tells = mapped (λ a b. a ≡ b) same_record (both place_tells (both stream_tells descriptors_tells))

sending_at : List ℕ → Bool
sending_at text = get_or text 0 0 == 115

sending_back : (b : Bool) (x : List ℕ) → sending_at (sending_text b ++ x) ≡ b
unfolding sending_at
sending_back true x = refl
sending_back false x = refl

sending_tells : IsCode sending_text
sending_tells = by_reading sending_text sending_at sending_back

abbrev sent_with : ℕ → ℕ → ℕ → ℕ → Bool → SentMedia
sent_with timestamp sequence sent octets is_sending =
    record { timestamp = timestamp; sequence = sequence; sent = sent; octets = octets; is_sending = is_sending }

abbrev SameSent : SentMedia → SentMedia → Type 0
SameSent a b =
    (a.timestamp ≡ b.timestamp) × ((a.sequence ≡ b.sequence) × ((a.sent ≡ b.sent) × ((a.octets ≡ b.octets)
    × (a.is_sending ≡ b.is_sending))))

same_sent : (a b : SentMedia) → SameSent a b → a ≡ b
same_sent a b (c, (d, (e, (f, g)))) =
    let same : sent_with a.timestamp a.sequence a.sent a.octets a.is_sending
    ≡ sent_with b.timestamp b.sequence b.sent b.octets b.is_sending = cc in
    same

sent_tells : IsCode sent_text
sent_tells = mapped (λ a b. a ≡ b) same_sent
    (both (part (λ (m : SentMedia). m.timestamp) (numbered_tells (codes "timestamp ")))
    (both (part (λ (m : SentMedia). m.sequence) (numbered_tells (codes "sequence ")))
    (both (part (λ (m : SentMedia). m.sent) (numbered_tells (codes "sent ")))
    (both (part (λ (m : SentMedia). m.octets) (numbered_tells (codes "octets ")))
    (part (λ (m : SentMedia). m.is_sending) sending_tells)))))

names_and : (mark : List ℕ) → ((x : List ℕ) → starts (λ b. b == 82) (mark ++ x) ≡ false)
    → IsCode (λ ns. names ns ++ mark)
names_and mark stops = list_and (λ b. b == 82) mark (numbered_tells (codes "RTP/")) name_begins stops

-- ## Contexts

abbrev context_with : ℕ → ℕ → List ℕ → Context
context_with number room members = record { number = number; room = room; members = members }

same_context : (a b : Context) → (a.number ≡ b.number) × ((a.members ≡ b.members) × (a.room ≡ b.room)) → a ≡ b
same_context a b (c, (d, e)) =
    let same : context_with a.number a.room a.members ≡ context_with b.number b.room b.members = cc in
    same

pub context_one : (a b : Context) (x y : List ℕ) → context_line a ++ x ≡ context_line b ++ y → (a ≡ b) × (x ≡ y)
context_one a b x y e =
    let (n, e1) = (numbered_tells (codes "context ")).parts a.number b.number _ _
    (sym (append_assoc (numbered (codes "context ") a.number) _ x) ∙ e
    ∙ append_assoc (numbered (codes "context ") b.number) _ y) in
    let e2 = append_cancel_left (codes "has ") ((names a.members ++ closing (codes "in room ") a.room) ++ x)
    ((names b.members ++ closing (codes "in room ") b.room) ++ y) e1 in
    let (m, e3) = many (numbered (codes "RTP/")) (λ b. b == 82) (λ _. false)
    (λ c d p q _ _ h. (numbered_tells (codes "RTP/")).parts c d p q h) name_begins
    (λ c z. never_starts (numbered (codes "RTP/") c ++ z)) a.members b.members
    (closing (codes "in room ") a.room ++ x) (closing (codes "in room ") b.room ++ y) refl refl
    (never_starts (closing (codes "in room ") a.room ++ x)) (never_starts (closing (codes "in room ") b.room ++ y))
    (sym (append_assoc (names a.members) (closing (codes "in room ") a.room) x) ∙ e2
    ∙ append_assoc (names b.members) (closing (codes "in room ") b.room) y) in
    let (r, e4) = (closing_tells (codes "in room ")).parts a.room b.room x y e3 in
    (same_context a b (n, (m, r)), e4)

-- ## Terminations

abbrev pub is_listener : ℕ → Bool
is_listener b = b == 108

muted_one : (n : ℕ) (ns bs : List ℕ) (x y : List ℕ) → starts is_listener x ≡ false → starts is_listener y ≡ false
    → muted_line n ns ++ x ≡ muted_line n bs ++ y → (ns ≡ bs) × (x ≡ y)
muted_one n [] [] x y xs ys e = (refl, e)
muted_one n [] (b ∷ bs) x y xs ys e = apart is_listener (muted_line n (b ∷ bs) ++ y) x (sym e) refl xs
muted_one n (a ∷ ns) [] x y xs ys e = apart is_listener (muted_line n (a ∷ ns) ++ x) y e refl ys
muted_one n (a ∷ ns) (b ∷ bs) x y xs ys e =
    let e1 = append_cancel_left (numbered (codes "listener RTP/") n) _ _
    (sym (append_assoc (numbered (codes "listener RTP/") n) (codes "has " ++ (names (a ∷ ns) ++ codes "muted\n")) x) ∙ e
    ∙ append_assoc (numbered (codes "listener RTP/") n) (codes "has " ++ (names (b ∷ bs) ++ codes "muted\n")) y) in
    (names_and (codes "muted\n") (λ _. refl)).parts (a ∷ ns) (b ∷ bs) x y
    (append_cancel_left (codes "has ") ((names (a ∷ ns) ++ codes "muted\n") ++ x)
    ((names (b ∷ bs) ++ codes "muted\n") ++ y) e1)

abbrev termination_with : Record → SentMedia → List ℕ → SaidTermination
termination_with r sent muted = record { termination = r; sent = sent; muted = muted }

same_termination : (a b : SaidTermination) → a.termination ≡ b.termination → a.sent ≡ b.sent → a.muted ≡ b.muted → a ≡ b
same_termination a b c d e =
    let same : termination_with a.termination a.sent a.muted ≡ termination_with b.termination b.sent b.muted = cc in
    same

pub termination_one : (a b : SaidTermination) (x y : List ℕ) → starts is_listener x ≡ false
    → starts is_listener y ≡ false
    → termination_lines a ++ x ≡ termination_lines b ++ y → (a ≡ b) × (x ≡ y)
termination_one a b x y xs ys e =
    let line = both (part (λ (t : SaidTermination). t.termination) record_tells)
    (part (λ (t : SaidTermination). t.sent) sent_tells) in
    let ((r, s), e1) = line.parts a b (muted_line a.termination.number a.muted ++ x)
    (muted_line b.termination.number b.muted ++ y)
    (sym (append_assoc (record_text a.termination ++ sent_text a.sent) (muted_line a.termination.number a.muted) x) ∙ e
    ∙ append_assoc (record_text b.termination ++ sent_text b.sent) (muted_line b.termination.number b.muted) y) in
    let number : a.termination.number ≡ b.termination.number = ap (λ (v : Record). v.number) r in
    let e2 = subst (λ n. muted_line n a.muted ++ x ≡ muted_line b.termination.number b.muted ++ y) number e1 in
    let (m, e3) = muted_one b.termination.number a.muted b.muted x y xs ys e2 in
    (same_termination a b r s m, e3)

pub termination_begins : (t : SaidTermination) (x : List ℕ) → starts (λ b. b == 116) (termination_lines t ++ x) ≡ true
termination_begins t x = refl

pub termination_stops : (t : SaidTermination) (x : List ℕ) → starts is_listener (termination_lines t ++ x) ≡ false
termination_stops t x = refl

-- ## Replies

abbrev reply_with : List ℕ → ℕ → List ℕ → KeptReply
reply_with sender number text = record { sender = sender; number = number; text = text }

same_reply : (a b : KeptReply) → (a.number ≡ b.number) × ((a.sender ≡ b.sender) × (a.text ≡ b.text)) → a ≡ b
same_reply a b (c, (d, e)) =
    let same : reply_with a.sender a.number a.text ≡ reply_with b.sender b.number b.text = cc in
    same

pub reply_tells : IsCode reply_line
reply_tells = mapped (λ a b. a ≡ b) same_reply
    (both (part (λ (r : KeptReply). r.number) (numbered_tells (codes "reply ")))
    (after (codes "to ") (both (part (λ (r : KeptReply). r.sender) sender_tells)
    (part (λ (r : KeptReply). r.text) text_tells))))
