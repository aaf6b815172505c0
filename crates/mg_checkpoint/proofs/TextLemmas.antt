-- Texts determine what is said.
use Rattle.std.proofs.Common.{◌≡◌, ℕ, ◌==◌, Bool, false, true, List, ◌++◌, codes, refl, sym, ◌∙◌, append_assoc}
use Rattle.std.specs.List.{flat_map}
use Rattle.mg_rooms.specs.declared.context.Context.{Context}
use Rattle.mg_kept.specs.KeptReplies.{KeptReply}
use Rattle.mg_checkpoint.specs.Checkpoint.{TextsDetermineSaid}
use Rattle.mg_checkpoint.specs.Said.{Said, SaidTermination}
use Rattle.mg_checkpoint.specs.aids.Text.{first_lines, context_line, termination_lines, reply_line, body_of, last_line}
use Rattle.mg_checkpoint.proofs.FormLemmas.{Tells, both, after, part, starts, numbered_tells, closing_tells, stops_after, many, never_starts}
use Rattle.mg_checkpoint.proofs.LineLemmas.{context_one, is_listener, reply_tells, termination_one, termination_begins, termination_stops}

abbrev SameFirst : Said → Said → Type 0
SameFirst a b =
    (a.control ≡ b.control) × ((a.ticks ≡ b.ticks)
    × ((a.next_termination ≡ b.next_termination) × (a.next_context ≡ b.next_context)))

first_tells : Tells first_lines SameFirst
first_tells =
    both (part (λ (s : Said). s.control) (numbered_tells (codes "checkpoint after ")))
    (both (part (λ (s : Said). s.ticks) (numbered_tells (codes "control datagrams and ")))
    (after (codes "ticks\n") (both (part (λ (s : Said). s.next_termination) (numbered_tells (codes "next RTP/")))
    (part (λ (s : Said). s.next_context) (closing_tells (codes "context "))))))

abbrev said_with : ℕ → ℕ → ℕ → ℕ → List Context → List SaidTermination → List KeptReply → Said
said_with control ticks next_termination next_context contexts terminations replies = record {
  control = control;
  ticks = ticks;
  next_termination = next_termination;
  next_context = next_context;
  contexts = contexts;
  terminations = terminations;
  replies = replies;
}

same_said : (a b : Said) → SameFirst a b → a.contexts ≡ b.contexts → a.terminations ≡ b.terminations
    → a.replies ≡ b.replies → a ≡ b
same_said a b (c, (d, (e, f))) g h i =
    let same : said_with a.control a.ticks a.next_termination a.next_context a.contexts a.terminations a.replies
    ≡ said_with b.control b.ticks b.next_termination b.next_context b.contexts b.terminations b.replies = cc in
    same

abbrev is_context : ℕ → Bool
is_context b = b == 99

abbrev is_termination : ℕ → Bool
is_termination b = b == 116

abbrev is_reply : ℕ → Bool
is_reply b = b == 114

context_begins : (x : Context) (z : List ℕ) → starts is_context (context_line x ++ z) ≡ true
context_begins x z = refl

reply_begins : (r : KeptReply) (z : List ℕ) → starts is_reply (reply_line r ++ z) ≡ true
reply_begins r z = refl

-- No line of a termination and no line of a reply begins like a context's, and no line of a reply begins like a
-- termination's or a listener's.
after_terminations : (kind : ℕ → Bool) → ((r : KeptReply) (z : List ℕ) → starts kind (reply_line r ++ z) ≡ false)
    → (s : Said) (x : List ℕ) → starts kind x ≡ false → starts kind (flat_map reply_line s.replies ++ x) ≡ false
after_terminations kind reply s x h = stops_after reply_line kind reply s.replies x h

after_contexts : (s : Said) (x : List ℕ) → starts is_context x ≡ false
    → starts is_context (flat_map termination_lines s.terminations ++ (flat_map reply_line s.replies ++ x)) ≡ false
after_contexts s x h =
    stops_after termination_lines is_context (λ t z. refl) s.terminations (flat_map reply_line s.replies ++ x)
    (after_terminations is_context (λ r z. refl) s x h)

-- What follows the body begins with none of the bytes with which a line of a list begins.
record Ends (x : List ℕ) : Type 0 where
  context : starts is_context x ≡ false
  termination : starts is_termination x ≡ false
  listener : starts is_listener x ≡ false
  reply : starts is_reply x ≡ false

lists_one : (a b : Said) (x y : List ℕ) → Ends x → Ends y
    → flat_map context_line a.contexts ++ (flat_map termination_lines a.terminations
    ++ (flat_map reply_line a.replies ++ x))
    ≡ flat_map context_line b.contexts ++ (flat_map termination_lines b.terminations
    ++ (flat_map reply_line b.replies ++ y))
    → (a.contexts ≡ b.contexts) × ((a.terminations ≡ b.terminations) × (a.replies ≡ b.replies))
lists_one a b x y xs ys e =
    let ra = flat_map reply_line a.replies ++ x in
    let rb = flat_map reply_line b.replies ++ y in
    let ta = flat_map termination_lines a.terminations ++ ra in
    let tb = flat_map termination_lines b.terminations ++ rb in
    let (contexts, e1) = many context_line is_context (λ _. false)
    (λ c d p q _ _ h. context_one c d p q h) context_begins
    (λ c z. never_starts (context_line c ++ z)) a.contexts b.contexts ta tb (after_contexts a x xs.context)
    (after_contexts b y ys.context) (never_starts ta) (never_starts tb) e in
    let (terminations, e2) = many termination_lines is_termination is_listener termination_one termination_begins
    termination_stops a.terminations b.terminations ra rb
    (after_terminations is_termination (λ r z. refl) a x xs.termination)
    (after_terminations is_termination (λ r z. refl) b y ys.termination)
    (after_terminations is_listener (λ r z. refl) a x xs.listener)
    (after_terminations is_listener (λ r z. refl) b y ys.listener) e1 in
    let (replies, _) = many reply_line is_reply (λ _. false) (λ c d p q _ _ h. reply_tells.parts c d p q h) reply_begins
    (λ r z. never_starts (reply_line r ++ z)) a.replies b.replies x y xs.reply ys.reply
    (never_starts x) (never_starts y) e2 in
    (contexts, (terminations, replies))

regrouped : (f c t r x : List ℕ) → (f ++ (c ++ (t ++ r))) ++ x ≡ f ++ (c ++ (t ++ (r ++ x)))
regrouped f c t r x = simp append_assoc

body_one : (a b : Said) (x y : List ℕ) → Ends x → Ends y → body_of a ++ x ≡ body_of b ++ y → a ≡ b
body_one a b x y xs ys e =
    let (first, rest) = first_tells.parts a b _ _
    (sym (regrouped (first_lines a) (flat_map context_line a.contexts) (flat_map termination_lines a.terminations)
    (flat_map reply_line a.replies) x) ∙ e
    ∙ regrouped (first_lines b) (flat_map context_line b.contexts) (flat_map termination_lines b.terminations)
    (flat_map reply_line b.replies) y) in
    let (contexts, (terminations, replies)) = lists_one a b x y xs ys rest in
    same_said a b first contexts terminations replies

last_ends : (body : List ℕ) → Ends (last_line body)
last_ends body = record { context = refl; termination = refl; listener = refl; reply = refl }

pub texts_determine_said : TextsDetermineSaid
texts_determine_said a b e =
    body_one a b (last_line (body_of a)) (last_line (body_of b)) (last_ends (body_of a)) (last_ends (body_of b)) e
