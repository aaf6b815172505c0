-- The texts of addresses, laws, descriptors and modes determine what they stand for.
use Rattle.std.proofs.Common.{◌≡◌, ℕ, ◌==◌, false, List, [], ◌∷◌, ◌++◌, codes, get_or, Option, Some, None, refl, sym, ap, ◌∙◌, append_assoc}
use Rattle.std.proofs.lemmas.List.{append_cancel_left}
use Rattle.std.specs.Prelude.{if◌then◌else◌}
use Rattle.mg_g711.specs.declared.law.Law.{Law}
use Rattle.mg_g711.specs.declared.law.Law.TheVariants as laws
use Rattle.mg_words.specs.declared.mode.Mode.{Mode}
use Rattle.mg_words.specs.declared.mode.Mode.TheVariants.{Inactive, SendOnly, ReceiveOnly, SendReceive, Loopback}
use Rattle.mg_words.specs.Mode.{mode_text}
use Rattle.mg_sdp.specs.declared.chosen.Chosen.{Chosen}
use Rattle.mg_checkpoint.specs.aids.Forms.{numeral, numbered, after_dots, dotted, law_text, media_text}
use Rattle.mg_checkpoint.proofs.NumeralLemmas.{is_digit, numeral_nonempty, numeral_digits}
use Rattle.mg_checkpoint.proofs.FormLemmas.{IsCode, both, apart, part, mapped, by_reading, starts, split_at, number_then, numbered_tells}

-- ## Media

after_dots_stops : (ns x : List ℕ) → starts is_digit (after_dots ns ++ x) ≡ false
after_dots_stops [] x = refl
after_dots_stops (n ∷ ns) x = refl

after_dots_one : (ms ns x y : List ℕ) → after_dots ms ++ x ≡ after_dots ns ++ y → (ms ≡ ns) × (x ≡ y)
after_dots_one [] [] x y e = (refl, append_cancel_left (codes ":") x y e)
after_dots_one [] (n ∷ ns) x y e = apart (λ b. b == 58) (after_dots [] ++ x) (after_dots (n ∷ ns) ++ y) e refl refl
after_dots_one (m ∷ ms) [] x y e = apart (λ b. b == 46) (after_dots (m ∷ ms) ++ x) (after_dots [] ++ y) e refl refl
after_dots_one (m ∷ ms) (n ∷ ns) x y e =
    let same = append_cancel_left (codes ".") ((numeral m ++ after_dots ms) ++ x)
    ((numeral n ++ after_dots ns) ++ y) e in
    let (first, rest) = number_then m n (after_dots ms ++ x) (after_dots ns ++ y) (after_dots_stops ms x)
    (after_dots_stops ns y) (sym (append_assoc (numeral m) (after_dots ms) x) ∙ same
    ∙ append_assoc (numeral n) (after_dots ns) y) in
    let (others, end) = after_dots_one ms ns x y rest in
    (cc, end)

no_address : (n : ℕ) (ns x y : List ℕ) → codes ":" ++ x ≡ (numeral n ++ after_dots ns) ++ y → ⊥
no_address n ns x y e =
    let (none, _) = split_at is_digit [] (numeral n) (codes ":" ++ x) (after_dots ns ++ y) refl (numeral_digits n) refl
    (after_dots_stops ns y) (e ∙ append_assoc (numeral n) (after_dots ns) y) in
    numeral_nonempty n (sym none)

dotted_one : (ms ns x y : List ℕ) → dotted ms ++ x ≡ dotted ns ++ y → (ms ≡ ns) × (x ≡ y)
dotted_one [] [] x y e = (refl, append_cancel_left (codes ":") x y e)
dotted_one [] (n ∷ ns) x y e = absurd (no_address n ns x y e)
dotted_one (m ∷ ms) [] x y e = absurd (no_address m ms y x (sym e))
dotted_one (m ∷ ms) (n ∷ ns) x y e =
    let (first, rest) = number_then m n (after_dots ms ++ x) (after_dots ns ++ y) (after_dots_stops ms x)
    (after_dots_stops ns y) (sym (append_assoc (numeral m) (after_dots ms) x) ∙ e
    ∙ append_assoc (numeral n) (after_dots ns) y) in
    let (others, end) = after_dots_one ms ns x y rest in
    (cc, end)

dotted_tells : IsCode dotted
dotted_tells = record { parts = dotted_one }

law_at : List ℕ → Law
law_at text = if get_or text 3 0 == 85 then laws.Mu else laws.A

law_back : (law : Law) (x : List ℕ) → law_at (law_text law ++ x) ≡ law
unfolding law_at
law_back laws.Mu x = refl
law_back laws.A x = refl

law_tells : IsCode law_text
law_tells = by_reading law_text law_at law_back

abbrev chosen_of : List ℕ → ℕ → Law → Chosen
chosen_of address port law = record { address = address; port = port; law = law }

made_chosen : (c d : Chosen) → (c.address ≡ d.address) × ((c.port ≡ d.port) × (c.law ≡ d.law)) → c ≡ d
made_chosen c d (e, (f, g)) =
    let same : chosen_of c.address c.port c.law ≡ chosen_of d.address d.port d.law = cc in
    same

chosen_tells : IsCode (λ (c : Chosen). dotted c.address ++ (numbered [] c.port ++ law_text c.law))
chosen_tells = mapped (λ c d. c ≡ d) made_chosen
    (both (part (λ (c : Chosen). c.address) dotted_tells)
    (both (part (λ (c : Chosen). c.port) (numbered_tells [])) (part (λ (c : Chosen). c.law) law_tells)))

media_one : (a b : Option Chosen) (x y : List ℕ) → media_text a ++ x ≡ media_text b ++ y → (a ≡ b) × (x ≡ y)
media_one None None x y e = (refl, append_cancel_left (codes "none ") x y e)
media_one None (Some d) x y e = apart (λ b. b == 110) (media_text None ++ x) (media_text (Some d) ++ y) e refl refl
media_one (Some c) None x y e = apart (λ b. b == 97) (media_text (Some c) ++ x) (media_text None ++ y) e refl refl
media_one (Some c) (Some d) x y e =
    let (same, rest) = chosen_tells.parts c d x y (append_cancel_left (codes "at ") _ _ e) in
    (ap (λ (v : Chosen). Some v) same, rest)

pub media_tells : IsCode media_text
media_tells = record { parts = media_one }

-- ## Modes

mode_at : List ℕ → Mode
mode_at text =
    if get_or text 0 0 == 73 then Inactive
    else (if get_or text 0 0 == 82 then ReceiveOnly
    else (if get_or text 0 0 == 76 then Loopback
    else (if get_or text 4 0 == 79 then SendOnly else SendReceive)))

mode_back : (mode : Mode) (x : List ℕ) → mode_at (mode_text mode ++ x) ≡ mode
unfolding mode_text mode_at
mode_back Inactive x = refl
mode_back SendOnly x = refl
mode_back ReceiveOnly x = refl
mode_back SendReceive x = refl
mode_back Loopback x = refl

pub mode_tells : IsCode mode_text
mode_tells = by_reading mode_text mode_at mode_back
