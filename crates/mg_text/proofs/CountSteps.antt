-- Counting requests and commands in a loop.
use Rattle.std.proofs.Common.{◌≡◌, ℕ, ◌+◌, ◌-◌, ◌<◌, ◌≤◌, Bool, true, false, ◌&&◌, inl, inr, List, length, get_or, drop, Some, None, refl, sym, ap, ◌∙◌, arith}
use Rattle.std.specs.Prelude.{nat_le}
use Rattle.std.proofs.lemmas.List.{drop_more, drop_all}
use Rattle.std.proofs.lemmas.Bool.{le-leb, lt-leb}
use Rattle.std.proofs.lemmas.Bool.Decides.{leb_tells}
use Rattle.mg_text.specs.declared.request.Request.{Request}
use Rattle.mg_text.specs.declared.request.Action.{Action}
use Rattle.mg_text.specs.declared.body.MessageItem.{MessageItem}
use Rattle.mg_text.specs.declared.body.MessageItem.TheVariants as items
use Rattle.mg_text.specs.declared.body.Range.{Range}
use Rattle.mg_text.specs.Message.{requests_in, commands_in}
use Rattle.mg_text.specs.Message.{action_commands}
use Rattle.mg_text.specs.aids.Text.{left_after, is_within}

fits : (most n : ℕ) → n ≤ most → left_after most n ≡ Some (most - n)
fits most n le = rw (le-leb n most le) refl

above : (most n : ℕ) → most < n → left_after most n ≡ None
above most n lt = rw (lt-leb n most lt) refl

less : (left a b : ℕ) → a ≤ left → left_after (left - a) b ≡ left_after left (a + b)
less left a b le =
    elim (leb_tells b (left - a)) [
      | inl t ↦
          let same : left - a - b ≡ left - (a + b) = omega arith in
          fits (left - a) b t.1 ∙ ap (λ (n : ℕ). Some n) same ∙ sym (fits left (a + b) (omega (arith, t.1)))
      | inr t ↦ above (left - a) b t.1 ∙ sym (above left (a + b) (omega (arith, t.1)))
    ]

left-some : (most n left : ℕ) → left_after most n ≡ Some left → (n ≤ most) × (left ≡ most - n)
left-some most n left e =
    elim (leb_tells n most) [
      | inl t ↦ let f = fits most n t.1 in (t.1, cc)
      | inr t ↦ let f = above most n t.1 in absurd cc
    ]

left-none : (most n : ℕ) → left_after most n ≡ None → most < n
left-none most n e =
    elim (leb_tells n most) [
      | inl t ↦ let f = fits most n t.1 in absurd cc
      | inr t ↦ t.1
    ]

pub action_next : (xs : List Action) (i left : ℕ) (d : Action) → i < length xs →
    length (get_or xs i d).commands ≤ left → left_after (left - length (get_or xs i d).commands)
    (action_commands (drop (i + 1) xs)) ≡ left_after left (action_commands (drop i xs))
action_next xs i left d lt le = rw (drop_more xs i d lt)
    (less left (length (get_or xs i d).commands) (action_commands (drop (i + 1) xs)) le)

pub action_over : (xs : List Action) (i left : ℕ) (d : Action) → i < length xs →
    left < length (get_or xs i d).commands → left_after left (action_commands (drop i xs)) ≡ None
action_over xs i left d lt over = rw (drop_more xs i d lt) (above left _ (omega arith))

pub action_end : (xs : List Action) (i left : ℕ) → length xs ≤ i →
    left_after left (action_commands (drop i xs)) ≡ Some left
action_end xs i left le =
    let all : left - 0 ≡ left = omega arith in
    rw (drop_all i xs le) (fits left 0 (omega arith) ∙ ap (λ (n : ℕ). Some n) all)

pub ruleset action_steps = (action_next, action_over, action_end)

same_leb : (a b c d : ℕ) → (a ≤ b → c ≤ d) → (c ≤ d → a ≤ b) → nat_le a b ≡ nat_le c d
same_leb a b c d to from =
    elim (leb_tells a b) [
      | inl t ↦ t.0 ∙ sym (le-leb c d (to t.1))
      | inr t ↦ elim (leb_tells c d) [
        | inl u ↦ absurd (let le = from u.1 in omega (arith, t.1, le))
        | inr u ↦ t.0 ∙
            sym u.0
      ]
    ]

and_none : (x : Bool) → (x && false) ≡ false
and_none true = refl
and_none false = refl

pub item_other : (xs : List MessageItem) (i requests commands : ℕ) (d : MessageItem) (ranges : List Range) →
    i < length xs → get_or xs i d ≡ items.Acknowledgement ranges →
    is_within requests commands (drop (i + 1) xs) ≡ is_within requests commands (drop i xs)
item_other xs i requests commands d ranges lt is = rw (drop_more xs i d lt, is) refl

pub item_none : (xs : List MessageItem) (i commands : ℕ) (d : MessageItem) (x : Request) → i < length xs →
    get_or xs i d ≡ items.Request x → is_within 0 commands (drop i xs) ≡ false
item_none xs i commands d x lt is = rw (
  drop_more xs i d lt,
  is,
  lt-leb (1 + requests_in (drop (i + 1) xs)) 0 (omega arith),
) refl

pub item_over : (xs : List MessageItem) (i requests commands : ℕ) (d : MessageItem) (x : Request) → i < length xs →
    get_or xs i d ≡ items.Request x → left_after commands (action_commands x.actions) ≡ None →
    is_within requests commands (drop i xs) ≡ false
item_over xs i requests commands d x lt is none =
    let over = left-none commands (action_commands x.actions) none in
    rw (
      drop_more xs i d lt,
      is,
      lt-leb (action_commands x.actions + commands_in (drop (i + 1) xs)) commands
          (omega (arith, over)),
    ) (and_none _)

pub item_next : (xs : List MessageItem) (i requests commands left : ℕ) (d : MessageItem) (x : Request) →
    i < length xs → get_or xs i d ≡ items.Request x → 0 < requests →
    left_after commands (action_commands x.actions) ≡ Some left →
    is_within (requests - 1) left (drop (i + 1) xs) ≡ is_within requests commands (drop i xs)
item_next xs i requests commands left d x lt is some e =
    let room = left-some commands (action_commands x.actions) left e in
    let n = requests_in (drop (i + 1) xs) in
    let m = commands_in (drop (i + 1) xs) in
    let one = same_leb n (requests - 1) (1 + n) requests (λ h. omega arith) (λ h. omega arith) in
    let two = same_leb m left (action_commands x.actions + m) commands (λ h. omega (arith, room.0, room.1))
    (λ h. omega (arith, room.0, room.1)) in
    rw (drop_more xs i d lt, is, one, two) refl

pub item_end : (xs : List MessageItem) (i requests commands : ℕ) → length xs ≤ i →
    is_within requests commands (drop i xs) ≡ true
item_end xs i requests commands le = rw (
  drop_all i xs le,
  le-leb 0 requests (omega arith),
  le-leb 0 commands (omega arith),
) refl

pub ruleset item_steps = (item_other, item_none, item_over, item_next, item_end)
