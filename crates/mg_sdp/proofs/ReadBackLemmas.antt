-- A session description that the gateway writes reads back as the choice that was written.
use Rattle.std.proofs.Common.{◌≡◌, ℕ, suc, ◌+◌, ◌-◌, ◌^◌, ◌<◌, ◌≤◌, Bool, true, false, not, eqb, leb, ltb, List, [], ◌∷◌, ◌++◌, length, get_or, drop, Some, Ok, refl, sym, ap, ◌∙◌, subst, append_assoc, length-append, arith, decimal, codes}
use Rattle.std.proofs.lemmas.List.{reverse-append, append-nil}
use Rattle.std.proofs.lemmas.Bool.{leb-true, lt-ltb, ne_eqb, and_parts, and_from, not-true, not_from_false}
use Rattle.std.proofs.Math.Seq.{take-append_seam, take-length}
use Rattle.std.specs.List.{list_all, position_or_len, slice_split}
use Rattle.std.specs.Char.{is_ascii_digit}
use Rattle.std.specs.Str.{all_ascii_digits, bytes_eq}
use Rattle.mg_words.specs.Cut.{cut}
use Rattle.mg_words.specs.Address.{address_of}
use Rattle.mg_g711.specs.declared.law.Law.{Law}
use Rattle.mg_g711.specs.declared.law.Law.TheVariants.{Mu, A}
use Rattle.mg_sdp.specs.declared.media.MediaLine.{MediaLine}
use Rattle.mg_words.specs.LineEnd.{is_line_end}
use Rattle.mg_sdp.specs.Lines.{is_space_or_tab, is_filled, trimmed, content_lines, letter_and_value}
use Rattle.mg_sdp.specs.Fields.{fields_of}
use Rattle.mg_sdp.specs.Media.{media_in, law_of}
use Rattle.mg_sdp.specs.Connection.{connection_in}
use Rattle.mg_sdp.specs.Offer.{offer_of}
use Rattle.mg_sdp.specs.Sessions.{sessions_of}
use Rattle.mg_sdp.specs.Written.{law_text, session_text}
use Rattle.mg_sdp.proofs.LineLemmas.{lines_none}
use Rattle.mg_sdp.proofs.DecimalLemmas.{written, port_of-decimal, part_of-decimal, decimal_passes}

-- A part ends at the first element that satisfies p.
split_seam : (p : ℕ → Bool) (xs : List ℕ) (y : ℕ) (ys : List ℕ) → list_all (λ b. not (p b)) xs ≡ true → p y ≡ true →
    slice_split p (xs ++ y ∷ ys) ≡ xs ∷ slice_split p ys
split_seam p [] y ys h e = rw e refl
split_seam p (x ∷ xs) y ys h e =
    let two = and_parts (not (p x)) (list_all (λ b. not (p b)) xs) h in
    rw (not-true (p x) two.0, split_seam p xs y ys two.1 e) refl

split_whole : (p : ℕ → Bool) (xs : List ℕ) → list_all (λ b. not (p b)) xs ≡ true → slice_split p xs ≡ xs ∷ []
split_whole p [] h = refl
split_whole p (x ∷ xs) h =
    let two = and_parts (not (p x)) (list_all (λ b. not (p b)) xs) h in
    rw (not-true (p x) two.0, split_whole p xs two.1) refl

-- Whether a byte does not end a line. By the lemmas below, a line ends at its line end, and the text after it has the
-- other lines.
abbrev continues : ℕ → Bool
continues b = not (is_line_end b)

line_then : (line rest : List ℕ) → list_all continues line ≡ true → trimmed line ≡ line → is_filled line ≡ true →
    content_lines (line ++ 13 ∷ 10 ∷ rest) ≡ line ∷ content_lines rest
unfolding content_lines
line_then line rest h t f = rw (split_seam is_line_end line 13 (10 ∷ rest) h refl, t, f) refl

trimmed_whole : (x : ℕ) (front : List ℕ) (z : ℕ) → is_space_or_tab x ≡ false → is_space_or_tab z ≡ false →
    trimmed (x ∷ (front ++ z ∷ [])) ≡ x ∷ (front ++ z ∷ [])
trimmed_whole x front z e f =
    let none : length (x ∷ (front ++ z ∷ [])) - 0 ≡ length (x ∷ (front ++ z ∷ [])) = omega arith in
    rw e (rw (reverse-append (x ∷ front) (z ∷ []), f, none) (take-length (x ∷ (front ++ z ∷ []))))

-- Whether a byte belongs to a field. By the lemmas below, a field ends at the first space, and the last field ends with
-- the value.
abbrev is_ink : ℕ → Bool
is_ink b = not (is_space_or_tab b)

field_then : (field rest : List ℕ) → list_all is_ink field ≡ true → is_filled field ≡ true →
    fields_of (field ++ 32 ∷ rest) ≡ field ∷ fields_of rest
unfolding fields_of
field_then field rest h f = rw (split_seam is_space_or_tab field 32 rest h refl, f) refl

field_last : (field : List ℕ) → list_all is_ink field ≡ true → is_filled field ≡ true → fields_of field ≡ field ∷ []
unfolding fields_of
field_last field h f = rw (split_whole is_space_or_tab field h, f) refl

pub all_append : (p : ℕ → Bool) (xs ys : List ℕ) → list_all p xs ≡ true → list_all p ys ≡ true →
    list_all p (xs ++ ys) ≡ true
all_append p [] ys h k = k
all_append p (x ∷ xs) ys h k =
    let two = and_parts (p x) (list_all p xs) h in
    and_from (p x) (list_all p (xs ++ ys)) two.0 (all_append p xs ys two.1 k)

-- If y is the first element that satisfies p, its position is the number of elements before it. By the lemmas below,
-- text whose first part has no dot is split at the dot after that part.
pub position_seam : (p : ℕ → Bool) (xs : List ℕ) (y : ℕ) (ys : List ℕ) → list_all (λ b. not (p b)) xs ≡ true →
    p y ≡ true → position_or_len p (xs ++ y ∷ ys) ≡ length xs
position_seam p [] y ys h e = rw e refl
position_seam p (x ∷ xs) y ys h e =
    let two = and_parts (not (p x)) (list_all (λ b. not (p b)) xs) h in
    rw (not-true (p x) two.0, position_seam p xs y ys two.1 e) (omega arith)

pub drop_seam : (xs : List ℕ) (y : ℕ) (ys : List ℕ) → drop (length xs + 1) (xs ++ y ∷ ys) ≡ ys
drop_seam [] y ys = refl
drop_seam (x ∷ xs) y ys = let one : length (x ∷ xs) + 1 ≡ suc (length xs + 1) = omega arith in
    rw one (drop_seam xs y ys)

abbrev is_dot : ℕ → Bool
is_dot b = eqb b 46

cut_seam : (xs ys : List ℕ) → list_all (λ b. not (is_dot b)) xs ≡ true → cut 46 (xs ++ 46 ∷ ys) ≡ Some (xs, ys)
cut_seam xs ys h =
    let within : ltb (length xs) (length (xs ++ 46 ∷ ys)) ≡ true =
    lt-ltb (length xs) (length (xs ++ 46 ∷ ys)) (omega (arith, length-append xs (46 ∷ ys))) in
    rw (position_seam is_dot xs 46 ys h refl, within, take-append_seam xs (46 ∷ ys), drop_seam xs 46 ys) refl

-- A digit is neither a dot, nor a blank, nor part of a line end.
no_dot : (c : ℕ) → 48 ≤ c → c ≤ 57 → not (is_dot c) ≡ true
no_dot c low high = not_from_false (is_dot c) (ne_eqb c 46 (λ e. absurd (omega arith)))

digit_inks : (c : ℕ) → 48 ≤ c → c ≤ 57 → is_ink c ≡ true
digit_inks c low high = rw (ne_eqb c 32 (λ e. absurd (omega arith)), ne_eqb c 9 (λ e. absurd (omega arith))) refl

digit_goes_on : (c : ℕ) → 48 ≤ c → c ≤ 57 → continues c ≡ true
digit_goes_on c low high = rw (ne_eqb c 13 (λ e. absurd (omega arith)), ne_eqb c 10 (λ e. absurd (omega arith))) refl

-- The text of an address, by its four numbers.
abbrev pub dotted : ℕ → ℕ → ℕ → ℕ → List ℕ
dotted a b c d = decimal a ++ (46 ∷ (decimal b ++ (46 ∷ (decimal c ++ (46 ∷ decimal d)))))

dotted_passes : (p : ℕ → Bool) → ((c : ℕ) → 48 ≤ c → c ≤ 57 → p c ≡ true) → p 46 ≡ true → (a b c d : ℕ) → a < 256 →
    b < 256 → c < 256 → d < 256 → list_all p (dotted a b c d) ≡ true
dotted_passes p h dot a b c d ha hb hc hd =
    let at : (n : ℕ) → n < 256 → list_all p (decimal n) ≡ true = λ n small. decimal_passes p h n (omega arith) in
    let last = at d hd in
    let third = all_append p (decimal c) (46 ∷ decimal d) (at c hc)
    (and_from (p 46) (list_all p (decimal d)) dot last) in
    let second = all_append p (decimal b) (46 ∷ (decimal c ++ (46 ∷ decimal d))) (at b hb)
    (and_from (p 46) (list_all p (decimal c ++ (46 ∷ decimal d))) dot third) in
    all_append p (decimal a) (46 ∷ (decimal b ++ (46 ∷ (decimal c ++ (46 ∷ decimal d))))) (at a ha)
    (and_from (p 46) (list_all p (decimal b ++ (46 ∷ (decimal c ++ (46 ∷ decimal d))))) dot second)

pub address_of-dotted : (a b c d : ℕ) → a < 256 → b < 256 → c < 256 → d < 256 →
    address_of (dotted a b c d) ≡ Some (a ∷ b ∷ c ∷ d ∷ [])
unfolding address_of
address_of-dotted a b c d ha hb hc hd =
    let plain : (n : ℕ) → n < 256 → list_all (λ x. not (is_dot x)) (decimal n) ≡ true =
    λ n small. decimal_passes (λ x. not (is_dot x)) no_dot n (omega arith) in
    rw (
      cut_seam (decimal a) (decimal b ++ (46 ∷ (decimal c ++ (46 ∷ decimal d)))) (plain a ha),
      cut_seam (decimal b) (decimal c ++ (46 ∷ decimal d)) (plain b hb),
      cut_seam (decimal c) (decimal d) (plain c hc),
      part_of-decimal a ha,
      part_of-decimal b hb,
      part_of-decimal c hc,
      part_of-decimal d hd,
    ) refl

-- Text that starts with a digit is not `$`.
not_dollar : (ds rest : List ℕ) → all_ascii_digits ds ≡ true → 0 < length ds → bytes_eq (ds ++ rest) (codes "$") ≡ false
not_dollar [] rest h some = absurd (omega arith)
not_dollar (c ∷ cs) rest h some =
    let digit = and_parts (is_ascii_digit c) (all_ascii_digits cs) h in
    let low = leb-true 48 c (and_parts (leb 48 c) (leb c 57) digit.0).0 in
    rw (ne_eqb c 36 (λ e. absurd (omega arith))) refl

decimal_some : (n : ℕ) → n < 2 ^ 64 → 0 < length (decimal n)
decimal_some n h = let w = written n h in omega (arith, ap length w.parts, length-append w.front (w.last ∷ []))

filled_append : (ds rest : List ℕ) → 0 < length ds → is_filled (ds ++ rest) ≡ true
filled_append [] rest some = absurd (omega arith)
filled_append (c ∷ cs) rest some = refl

-- These lemmas give the fields of the lines that the gateway writes.
connection_fields : (address : List ℕ) → list_all is_ink address ≡ true → is_filled address ≡ true →
    fields_of (codes "IN IP4 " ++ address) ≡ codes "IN" ∷ codes "IP4" ∷ address ∷ []
connection_fields address h f =
    field_then (codes "IN") (codes "IP4 " ++ address) refl refl
    ∙ ap (λ (others : List (List ℕ)). codes "IN" ∷ others)
    (field_then (codes "IP4") address refl refl ∙
    ap (λ (others : List (List ℕ)). codes "IP4" ∷ others) (field_last address h f))

pub connection_read : (a b c d : ℕ) → a < 256 → b < 256 → c < 256 → d < 256 →
    connection_in (fields_of (codes "IN IP4 " ++ dotted a b c d)) ≡ Some (Some (a ∷ b ∷ c ∷ d ∷ []))
unfolding connection_in
connection_read a b c d ha hb hc hd =
    let small : a < 2 ^ 64 = omega arith in
    let filled = filled_append (decimal a) (46 ∷ (decimal b ++ (46 ∷ (decimal c ++ (46 ∷ decimal d)))))
    (decimal_some a small) in
    let other = not_dollar (decimal a) (46 ∷ (decimal b ++ (46 ∷ (decimal c ++ (46 ∷ decimal d)))))
    (written a small).digits (decimal_some a small) in
    rw (
      connection_fields (dotted a b c d) (dotted_passes is_ink digit_inks refl a b c d ha hb hc hd) filled,
      other,
      address_of-dotted a b c d ha hb hc hd,
    ) refl

law_inks : (law : Law) → list_all is_ink (law_text law) ≡ true
law_inks Mu = refl
law_inks A = refl

law_filled : (law : Law) → is_filled (law_text law) ≡ true
law_filled Mu = refl
law_filled A = refl

law_of-law_text : (law : Law) → law_of (law_text law) ≡ Some (Some law)
unfolding law_of
law_of-law_text Mu = refl
law_of-law_text A = refl

media_fields : (port : List ℕ) (law : Law) → list_all is_ink port ≡ true → is_filled port ≡ true →
    fields_of (codes "audio " ++ (port ++ (codes " RTP/AVP " ++ law_text law))) ≡ codes "audio" ∷ port ∷
    codes "RTP/AVP" ∷ law_text law ∷ []
media_fields port law h f =
    field_then (codes "audio") (port ++ (codes " RTP/AVP " ++ law_text law)) refl refl
    ∙ ap (λ (others : List (List ℕ)). codes "audio" ∷ others) (field_then port (codes "RTP/AVP " ++ law_text law) h f
    ∙ ap (λ (others : List (List ℕ)). port ∷ others) (field_then (codes "RTP/AVP") (law_text law) refl refl
    ∙ ap (λ (others : List (List ℕ)). codes "RTP/AVP" ∷ others)
    (field_last (law_text law) (law_inks law) (law_filled law))))

abbrev media_given : ℕ → Law → MediaLine
media_given port law = record { port = Some port; law = Some law }

pub media_read : (port : ℕ) (law : Law) → port < 2 ^ 16 →
    media_in (fields_of (codes "audio " ++ (decimal port ++ (codes " RTP/AVP " ++ law_text law)))) ≡
    Some (media_given port law)
unfolding media_in
media_read port law h =
    let small : port < 2 ^ 64 = omega arith in
    let filled : is_filled (decimal port) ≡ true =
    rw append-nil at (filled_append (decimal port) [] (decimal_some port small)) in
    let other : bytes_eq (decimal port) (codes "$") ≡ false =
    rw append-nil at (not_dollar (decimal port) [] (written port small).digits (decimal_some port small)) in
    rw (
      media_fields (decimal port) law (decimal_passes is_ink digit_inks port small) filled,
      other,
      port_of-decimal port h,
      law_of-law_text law,
    ) refl

-- These are the lines that the gateway writes.
abbrev version_line : List ℕ
version_line = codes "v=0"

abbrev connection_line : ℕ → ℕ → ℕ → ℕ → List ℕ
connection_line a b c d = codes "c=IN IP4 " ++ dotted a b c d

abbrev media_line : ℕ → Law → List ℕ
media_line port law = codes "m=audio " ++ (decimal port ++ (codes " RTP/AVP " ++ law_text law))

abbrev time_line : List ℕ
time_line = codes "a=ptime:20"

digit_no_blank : (c : ℕ) → is_ascii_digit c ≡ true → is_space_or_tab c ≡ false
digit_no_blank c h =
    let two = and_parts (leb 48 c) (leb c 57) h in
    let low = leb-true 48 c two.0 in
    rw (ne_eqb c 32 (λ e. absurd (omega arith)), ne_eqb c 9 (λ e. absurd (omega arith))) refl

connection_ends : (a b c d : ℕ) (front : List ℕ) (last : ℕ) → decimal d ≡ front ++ last ∷ []
    → connection_line a b c d ≡ 99 ∷ ((codes "=IN IP4 " ++
    (decimal a ++ (46 ∷ (decimal b ++ (46 ∷ (decimal c ++ (46 ∷ front))))))) ++ last ∷ [])
connection_ends a b c d front last e = rw e (simp append_assoc)

connection_trimmed : (a b c d : ℕ) → d < 256 → trimmed (connection_line a b c d) ≡ connection_line a b c d
connection_trimmed a b c d h =
    let w = written d (omega arith) in
    let P : List ℕ → Type 0 = λ t. trimmed t ≡ t in
    subst P (sym (connection_ends a b c d w.front w.last w.parts))
    (trimmed_whole 99 (codes "=IN IP4 " ++ (decimal a ++
    (46 ∷ (decimal b ++ (46 ∷ (decimal c ++ (46 ∷ w.front))))))) w.last refl (digit_no_blank w.last w.digit))

media_ends : (port : List ℕ) (last : ℕ) → codes "m=audio " ++ (port ++ (codes " RTP/AVP " ++ last ∷ [])) ≡ 109 ∷
    ((codes "=audio " ++ (port ++ codes " RTP/AVP ")) ++ last ∷ [])
media_ends port last = simp append_assoc

media_trimmed_at : (port : List ℕ) (last : ℕ) → is_space_or_tab last ≡ false →
    trimmed (codes "m=audio " ++ (port ++ (codes " RTP/AVP " ++ last ∷ []))) ≡ codes "m=audio " ++
    (port ++ (codes " RTP/AVP " ++ last ∷ []))
media_trimmed_at port last h =
    let P : List ℕ → Type 0 = λ t. trimmed t ≡ t in
    subst P (sym (media_ends port last)) (trimmed_whole 109 (codes "=audio " ++ (port ++ codes " RTP/AVP ")) last refl
    h)

media_trimmed : (port : ℕ) (law : Law) → trimmed (media_line port law) ≡ media_line port law
media_trimmed port Mu = media_trimmed_at (decimal port) 48 refl
media_trimmed port A = media_trimmed_at (decimal port) 56 refl

protocol_goes_on : (law : Law) → list_all continues (codes " RTP/AVP " ++ law_text law) ≡ true
protocol_goes_on Mu = refl
protocol_goes_on A = refl

-- The four lines, each with its line end. By the lemmas below, the written text consists of these lines.
abbrev with_ends : List ℕ → List ℕ → List ℕ
with_ends connection media = version_line ++ 13 ∷ 10 ∷
    (connection ++ 13 ∷ 10 ∷ (media ++ 13 ∷ 10 ∷ (time_line ++ 13 ∷ 10 ∷ [])))

text_lines : (a b c d port : ℕ) (law : Law) → a < 256 → b < 256 → c < 256 → d < 256 → port < 2 ^ 16
    → content_lines (with_ends (connection_line a b c d) (media_line port law)) ≡ version_line ∷
    connection_line a b c d ∷ media_line port law ∷ time_line ∷ []
text_lines a b c d port law ha hb hc hd hp =
    let connection = connection_line a b c d in
    let media = media_line port law in
    let ends : List ℕ = time_line ++ 13 ∷ 10 ∷ [] in
    let fourth : content_lines ends ≡ time_line ∷ [] = line_then time_line [] refl refl refl ∙
    ap (λ (others : List (List ℕ)). time_line ∷ others) lines_none in
    let media_plain = all_append continues (decimal port) (codes " RTP/AVP " ++ law_text law)
    (decimal_passes continues digit_goes_on port (omega arith)) (protocol_goes_on law) in
    let third : content_lines (media ++ 13 ∷ 10 ∷ ends) ≡ media ∷ time_line ∷ [] =
    line_then media ends media_plain (media_trimmed port law) refl ∙
    ap (λ (others : List (List ℕ)). media ∷ others) fourth in
    let second : content_lines (connection ++ 13 ∷ 10 ∷ (media ++ 13 ∷ 10 ∷ ends)) ≡ connection ∷ media ∷ time_line ∷
    [] =
    line_then connection (media ++ 13 ∷ 10 ∷ ends) (dotted_passes continues digit_goes_on refl a b c d ha hb hc hd)
    (connection_trimmed a b c d hd) refl ∙ ap (λ (others : List (List ℕ)). connection ∷ others) third in
    line_then version_line (connection ++ 13 ∷ 10 ∷ (media ++ 13 ∷ 10 ∷ ends)) refl refl refl ∙
    ap (λ (others : List (List ℕ)). version_line ∷ others) second

lines_offer : (a b c d port : ℕ) (law : Law) → a < 256 → b < 256 → c < 256 → d < 256 → port < 2 ^ 16
    → offer_of (version_line ∷ connection_line a b c d ∷ media_line port law ∷ time_line ∷ []) ≡
    Some (record { address = Some (a ∷ b ∷ c ∷ d ∷ []); port = Some port; law = Some law })
unfolding offer_of letter_and_value
lines_offer a b c d port law ha hb hc hd hp = rw (connection_read a b c d ha hb hc hd, media_read port law hp) refl

lines_read : (a b c d port : ℕ) (law : Law) → a < 256 → b < 256 → c < 256 → d < 256 → port < 2 ^ 16
    → sessions_of (with_ends (connection_line a b c d) (media_line port law)) ≡
    Ok (Some (record { address = Some (a ∷ b ∷ c ∷ d ∷ []); port = Some port; law = Some law }) ∷ [])
unfolding sessions_of letter_and_value
lines_read a b c d port law ha hb hc hd hp =
    rw (text_lines a b c d port law ha hb hc hd hp, lines_offer a b c d port law ha hb hc hd hp) refl

text_joined : (a b c d port : ℕ) (law : Law) →
    session_text (record { address = a ∷ b ∷ c ∷ d ∷ []; port = port; law = law }) ≡
    with_ends (connection_line a b c d) (media_line port law)
text_joined a b c d port law = simp append_assoc

pub text_read : (address : List ℕ) (port : ℕ) (law : Law) → length address ≡ 4 → get_or address 0 0 < 256 →
    get_or address 1 0 < 256 → get_or address 2 0 < 256 → get_or address 3 0 < 256 → port < 2 ^ 16
    → sessions_of (session_text (record { address = address; port = port; law = law })) ≡
    Ok (Some (record { address = Some address; port = Some port; law = Some law }) ∷ [])
text_read [] port law four ha hb hc hd hp = absurd (omega arith)
text_read (a ∷ []) port law four ha hb hc hd hp = absurd (omega arith)
text_read (a ∷ b ∷ []) port law four ha hb hc hd hp = absurd (omega arith)
text_read (a ∷ b ∷ c ∷ []) port law four ha hb hc hd hp = absurd (omega arith)
text_read (a ∷ b ∷ c ∷ d ∷ []) port law four ha hb hc hd hp = ap sessions_of (text_joined a b c d port law) ∙
    lines_read a b c d port law ha hb hc hd hp
text_read (a ∷ b ∷ c ∷ d ∷ e ∷ more) port law four ha hb hc hd hp = absurd (omega arith)
