-- The lines that the code writes piece by piece equal those in the definitions.
use Rattle.std.proofs.Common.{◌≡◌, ◌⊎◌, ℕ, Bool, true, false, List, [], ◌∷◌, ◌++◌, Option, None, Some, inl, inr, refl, sym, ap, ◌∙◌, append_assoc, codes, decimal, length, ◌==◌, if◌then◌else◌}
use Rattle.std.proofs.lemmas.List.{append-nil}
use Rattle.std.specs.Prelude.{option_to_list}
use Rattle.std.specs.List.{concat, join_with_byte}
use Rattle.std.specs.Option.{option_map, option_map_or}
use Rattle.mg_words.specs.Term.{rtp_name}
use Rattle.mg_words.specs.declared.peer.Peer.{Peer}
use Rattle.mg_core.specs.Peer.{peer_text}
use Rattle.mg_dates.specs.declared.date.Date.{Date}
use Rattle.mg_heard.specs.declared.claim.Claim.{Claim}
use Rattle.mg_heard.specs.declared.claim.Claim.TheVariants.{CouldHear}
use Rattle.mg_heard.specs.declared.format.Format.{Format}
use Rattle.mg_heard.specs.declared.format.Format.TheVariants.{Text, Csv, Json, Page}
use Rattle.mg_heard.specs.declared.gap.Gap.{Gap}
use Rattle.mg_heard.specs.declared.interval.Interval.{Interval}
use Rattle.mg_heard.specs.declared.moment.Moment.{Moment}
use Rattle.mg_heard.specs.declared.named.Named.{Named}
use Rattle.mg_heard.specs.declared.violation.Violation.{Violation}
use Rattle.mg_heard.specs.Escaped.{escaped}
use Rattle.mg_heard.specs.Lines as lines
use Rattle.mg_heard.specs.Names.{name_of}
use Rattle.mg_heard.specs.Never.{violation_line}
use Rattle.mg_heard.specs.aids.Shapes as shapes

-- ## Terminations

at_same : (at : Option Peer) → shapes.at_text at ≡ lines.in_brackets (option_to_list (option_map peer_text at))
at_same None = refl
at_same (Some peer) = ap (λ (t : List ℕ). codes " (" ++ (t ++ codes ")")) (sym (append-nil (peer_text peer)))

rest_same : (r : List ℕ) (at : Option Peer) → codes " (" ++ (r ++ (shapes.comma_text at ++ codes ")")) ≡
    lines.in_brackets (r ∷ option_to_list (option_map peer_text at))
rest_same r None = ap (λ (t : List ℕ). codes " (" ++ (t ++ codes ")")) (sym (append-nil r))
rest_same r (Some peer) = simp (append_assoc, append-nil)

called_same : (names : List Named) (n : ℕ) (at : Option Peer) →
    shapes.called_party names n at ≡ lines.party_text (λ name. name) names n at
called_same names n at = λ i. if length (name_of names n at) == 0 then rtp_name n ++ at_same at i
    else name_of names n at ++ rest_same (rtp_name n) at i

shown_same : (names : List Named) (n : ℕ) (at : Option Peer) →
    shapes.shown_party names n at ≡ lines.party_text escaped names n at
shown_same names n at = λ i. if length (name_of names n at) == 0 then rtp_name n ++ at_same at i
    else escaped (name_of names n at) ++ rest_same (rtp_name n) at i

-- ## Sentences

sentence_join : (t t' v u u' c e : List ℕ) → t ≡ t' → u ≡ u' →
    t ++ (v ++ (u ++ (codes " in context " ++ (c ++ e)))) ≡
    concat (t' ∷ v ∷ u' ∷ codes " in context " ∷ c ∷ []) ++ e
sentence_join t t' v u u' c e p q = rw (p, q) (simp (append_assoc, append-nil))

sentence_same : (claim : Claim) (from until : List ℕ) (names : List Named) (x : Interval) →
    shapes.sentence_of claim from until names x ≡
    lines.flow_text (shapes.verb_of claim) names x.flow ++ lines.extent_text from until x.first x.end
sentence_same claim from until names x =
    sentence_join _ _ (shapes.verb_of claim) _ _ (decimal x.flow.context) (lines.extent_text from until x.first x.end)
    (called_same names x.flow.listener x.flow.listener_at) (called_same names x.flow.talker x.flow.talker_at)

violation_same : (time : List ℕ) (names : List Named) (v : Violation) →
    shapes.violation_sentence time names v ≡ lines.flow_text (codes " could hear ") names v.flow
    ++ (codes " from " ++ (lines.moment_text time v.at.tick v.at.date ++ codes "\n"))
violation_same time names v =
    sentence_join _ _ (codes " could hear ") _ _ (decimal v.flow.context)
    (codes " from " ++ (lines.moment_text time v.at.tick v.at.date ++ codes "\n"))
    (called_same names v.flow.listener v.flow.listener_at) (called_same names v.flow.talker v.flow.talker_at)

-- ## Rows of a page

bar_same : (end : Option Moment) → shapes.bar_end end ≡ option_map_or (λ (m : Moment). decimal m.tick) end (codes "var(--t1)")
bar_same None = refl
bar_same (Some end) = refl

page_join : (x0 x1 x2 x3 x4 x5 x6 x7 x8 x9 x10 a b b' t t' u u' c m e : List ℕ) → b ≡ b' → t ≡ t' → u ≡ u' →
    x0 ++ ((x1 ++ (a ++ (x2 ++ (b ++ x3)))) ++ (x4 ++ (t ++ (x5 ++ (u ++ (x6 ++ (c ++ (x7
    ++ (x8 ++ (m ++ (x9 ++ (e ++ x10))))))))))))
    ≡ concat (x0 ∷ [] ∷ x1 ∷ a ∷ x2 ∷ b' ∷ x3 ∷ concat (x4 ∷ t' ∷ x5 ∷ u' ∷ x6 ∷ c ∷ x7 ∷ [])
    ∷ x8 ∷ m ∷ x9 ∷ e ∷ x10 ∷ [])
page_join x0 x1 x2 x3 x4 x5 x6 x7 x8 x9 x10 a b b' t t' u u' c m e o p q = rw (o, p, q) (simp (append_assoc, append-nil))

page_is : (a b b' t t' u u' c m e : List ℕ) → b ≡ b' → t ≡ t' → u ≡ u' →
    codes "<tr " ++ ((codes "style=\"--a:" ++ (a ++ (codes ";--b:" ++ (b ++ codes "\">"))))
    ++ (codes "<th scope=\"row\">" ++ (t ++ (codes "</th><td>" ++ (u ++ (codes "</td><td>" ++ (c ++ (codes "</td>"
    ++ (codes "<td>" ++ (m ++ (codes "</td><td>" ++ (e ++ codes "</td><td><div></div></td></tr>\n"))))))))))))
    ≡ concat (codes "<tr " ∷ [] ∷ codes "style=\"--a:" ∷ a ∷ codes ";--b:" ∷ b' ∷ codes "\">"
    ∷ concat (codes "<th scope=\"row\">" ∷ t' ∷ codes "</th><td>" ∷ u' ∷ codes "</td><td>" ∷ c ∷ codes "</td>" ∷ [])
    ∷ codes "<td>" ∷ m ∷ codes "</td><td>" ∷ e ∷ codes "</td><td><div></div></td></tr>\n" ∷ [])
page_is a b b' t t' u u' c m e o p q = page_join (codes "<tr ") (codes "style=\"--a:") (codes ";--b:") (codes "\">")
    (codes "<th scope=\"row\">") (codes "</th><td>") (codes "</td><td>") (codes "</td>") (codes "<td>") (codes "</td><td>")
    (codes "</td><td><div></div></td></tr>\n") a b b' t t' u u' c m e o p q

page_same : (from until : List ℕ) (names : List Named) (x : Interval) →
    shapes.table_row_shape from until names x ≡
    lines.table_row [] (lines.flow_cells names x.flow) from until x.first x.end
page_same from until names x =
    page_is (decimal x.first.tick) _ _ _ _ _ _ (decimal x.flow.context)
    (lines.moment_text from x.first.tick x.first.date) (lines.end_text until x.end)
    (bar_same x.end) (shown_same names x.flow.listener x.flow.listener_at)
    (shown_same names x.flow.talker x.flow.talker_at)

gap_page : (a b k m e : List ℕ) →
    codes "<tr class=\"gap\" " ++ ((codes "style=\"--a:" ++ (a ++ (codes ";--b:" ++ (b ++ codes "\">"))))
    ++ (codes "<th scope=\"row\" colspan=\"3\">" ++ (k ++ (codes "</th>"
    ++ (codes "<td>" ++ (m ++ (codes "</td><td>" ++ (e ++ codes "</td><td><div></div></td></tr>\n"))))))))
    ≡ concat (codes "<tr " ∷ codes "class=\"gap\" " ∷ codes "style=\"--a:" ∷ a ∷ codes ";--b:" ∷ b ∷ codes "\">"
    ∷ (codes "<th scope=\"row\" colspan=\"3\">" ++ (k ++ codes "</th>"))
    ∷ codes "<td>" ∷ m ∷ codes "</td><td>" ∷ e ∷ codes "</td><td><div></div></td></tr>\n" ∷ [])
gap_page a b k m e = simp (append_assoc, append-nil)

-- ## Values

peer_same : (at : Option Peer) → lines.peer_value at ≡ (shapes.peer_column at, Some (shapes.peer_member at))
peer_same None = refl
peer_same (Some peer) = refl

tick_same : (end : Option Moment) → option_map_or (λ (m : Moment). lines.number m.tick) end lines.unknown ≡
    (shapes.tick_column end, Some (shapes.tick_member end))
tick_same None = refl
tick_same (Some end) = refl

time_same : (time : List ℕ) (date : Option Date) → option_map_or (λ (d : Date). lines.word time) date lines.unknown ≡
    (shapes.time_column time date, Some (shapes.time_member time date))
time_same time None = refl
time_same time (Some date) = refl

name_cases : (c : Bool) (quoted : List ℕ) → (if c then lines.unknown else (quoted, Some quoted)) ≡
    ((if c then [] else quoted), Some (if c then codes "null" else quoted))
name_cases true quoted = refl
name_cases false quoted = refl

name_same : (name : List ℕ) → lines.name_value name ≡ (shapes.name_column name, Some (shapes.name_member name))
name_same name = name_cases (length name == 0) (lines.in_quotes name)

plain : (k l p p' t q q' c f e e' d d' u u' n n' m m' : List ℕ) → List lines.Value
plain k l p p' t q q' c f e e' d d' u u' n n' m m' =
    lines.word k ∷ lines.word l ∷ (p, Some p') ∷ lines.word t ∷ (q, Some q') ∷ (c, Some c) ∷ (f, Some f)
    ∷ (e, Some e') ∷ (d, Some d') ∷ (u, Some u') ∷ (n, Some n') ∷ (m, Some m') ∷ []

values_same : (kind from until : List ℕ) (names : List Named) (x : Interval) →
    let listener = name_of names x.flow.listener x.flow.listener_at in
    let talker = name_of names x.flow.talker x.flow.talker_at in
    lines.interval_values kind from until names x ≡ plain kind (rtp_name x.flow.listener) (shapes.peer_column x.flow.listener_at)
    (shapes.peer_member x.flow.listener_at) (rtp_name x.flow.talker) (shapes.peer_column x.flow.talker_at)
    (shapes.peer_member x.flow.talker_at) (decimal x.flow.context) (decimal x.first.tick) (shapes.tick_column x.end)
    (shapes.tick_member x.end) (shapes.time_column from x.first.date) (shapes.time_member from x.first.date)
    (shapes.time_column until (shapes.date_of_end x.end)) (shapes.time_member until (shapes.date_of_end x.end))
    (shapes.name_column listener) (shapes.name_member listener) (shapes.name_column talker) (shapes.name_member talker)
unfolding plain
values_same kind from until names x = λ i. lines.word kind ∷ lines.word (rtp_name x.flow.listener)
    ∷ peer_same x.flow.listener_at i ∷ lines.word (rtp_name x.flow.talker) ∷ peer_same x.flow.talker_at i
    ∷ lines.number x.flow.context ∷ lines.number x.first.tick ∷ tick_same x.end i
    ∷ time_same from x.first.date i ∷ time_same until (shapes.date_of_end x.end) i
    ∷ name_same (name_of names x.flow.listener x.flow.listener_at) i
    ∷ name_same (name_of names x.flow.talker x.flow.talker_at) i ∷ []

plain_row : (k l p p' t q q' c f e e' d d' u u' n n' m m' : List ℕ) →
    k ++ (codes "," ++ (l ++ (codes "," ++ (p ++ (codes "," ++ (t ++ (codes "," ++ (q ++ (codes "," ++ (c ++ (codes ","
    ++ ((f ++ (codes "," ++ (e ++ (codes "," ++ (d ++ (codes "," ++ u))))))
    ++ (codes "," ++ (n ++ (codes "," ++ (m ++ codes "\n"))))))))))))))))
    ≡ lines.row_of (plain k l p p' t q q' c f e e' d d' u u' n n' m m')
unfolding plain
plain_row k l p p' t q q' c f e e' d d' u u' n n' m m' = simp append_assoc

-- These members, each after a comma, and then `end`.
after : List (List ℕ) → List ℕ → List ℕ
after [] end = end
after (x ∷ xs) end = 44 ∷ (x ++ after xs end)

joined_end : (x : List ℕ) (xs : List (List ℕ)) (end : List ℕ) → join_with_byte 44 (x ∷ xs) ++ end ≡ x ++ after xs end
unfolding after
joined_end x [] end = refl
joined_end x (y ∷ xs) end = append_assoc x (44 ∷ join_with_byte 44 (y ∷ xs)) end
    ∙ ap (λ (t : List ℕ). x ++ (44 ∷ t)) (joined_end y xs end)

flat : (x0 f x1 e x2 d x3 u rest : List ℕ) →
    (x0 ++ (f ++ (x1 ++ (e ++ (x2 ++ (d ++ (x3 ++ u))))))) ++ rest
    ≡ x0 ++ (f ++ (x1 ++ (e ++ (x2 ++ (d ++ (x3 ++ (u ++ rest)))))))
flat x0 f x1 e x2 d x3 u rest = simp append_assoc

unquoted : (a k z b l c p e t d : List ℕ) →
    a ++ ((k ++ z) ++ (b ++ ((l ++ z) ++ (c ++ (p ++ (e ++ ((t ++ z) ++ d)))))))
    ≡ a ++ (k ++ (z ++ (b ++ (l ++ (z ++ (c ++ (p ++ (e ++ (t ++ (z ++ d))))))))))
unquoted a k z b l c p e t d = simp append_assoc

abbrev member : (name value : List ℕ) → List ℕ
member name value = lines.in_quotes name ++ (codes ":" ++ value)

plain_object : (k l p p' t q q' c f e e' d d' u u' n n' m m' : List ℕ) →
    codes "{\"kind\":\"" ++ (k ++ (codes "\",\"listener\":\"" ++ (l ++ (codes "\",\"listener_at\":" ++ (p'
    ++ (codes ",\"talker\":\"" ++ (t ++ (codes "\",\"talker_at\":" ++ (q' ++ (codes ",\"context\":" ++ (c
    ++ ((codes ",\"first_tick\":" ++ (f ++ (codes ",\"end_tick\":" ++ (e' ++ (codes ",\"from\":" ++ (d'
    ++ (codes ",\"until\":" ++ u')))))))
    ++ (codes ",\"listener_name\":" ++ (n' ++ (codes ",\"talker_name\":" ++ (m' ++ codes "}\n"))))))))))))))))
    ≡ lines.object_of (plain k l p p' t q q' c f e e' d d' u u' n n' m m')
unfolding plain after
plain_object k l p p' t q q' c f e e' d d' u u' n n' m m' =
    let rest = codes ",\"listener_name\":" ++ (n' ++ (codes ",\"talker_name\":" ++ (m' ++ codes "}\n"))) in
    let until = codes ",\"talker_at\":" ++ (q' ++ (codes ",\"context\":" ++ (c ++ (codes ",\"first_tick\":" ++ (f
    ++ (codes ",\"end_tick\":" ++ (e' ++ (codes ",\"from\":" ++ (d' ++ (codes ",\"until\":" ++ (u' ++ rest))))))))))) in
    ap (λ (r : List ℕ). codes "{\"kind\":\"" ++ (k ++ (codes "\",\"listener\":\"" ++ (l ++ (codes "\",\"listener_at\":" ++ (p'
    ++ (codes ",\"talker\":\"" ++ (t ++ (codes "\",\"talker_at\":" ++ (q' ++ (codes ",\"context\":" ++ (c ++ r))))))))))))
    (flat (codes ",\"first_tick\":") f (codes ",\"end_tick\":") e' (codes ",\"from\":") d' (codes ",\"until\":") u' rest)
    ∙ sym (unquoted (codes "{\"kind\":\"") k (codes "\"") (codes ",\"listener\":\"") l (codes ",\"listener_at\":") p'
    (codes ",\"talker\":\"") t until)
    ∙ sym (ap (λ (r : List ℕ). codes "{" ++ r) (joined_end (member (codes "kind") (lines.in_quotes k))
    (member (codes "listener") (lines.in_quotes l) ∷ member (codes "listener_at") p' ∷ member (codes "talker") (lines.in_quotes t)
    ∷ member (codes "talker_at") q' ∷ member (codes "context") c ∷ member (codes "first_tick") f ∷ member (codes "end_tick") e'
    ∷ member (codes "from") d' ∷ member (codes "until") u' ∷ member (codes "listener_name") n'
    ∷ member (codes "talker_name") m' ∷ []) (codes "}\n")))

row_same : (claim : Claim) (from until : List ℕ) (names : List Named) (x : Interval) →
    shapes.interval_row claim from until names x ≡
    lines.row_of (lines.interval_values (shapes.kind_of claim) from until names x)
row_same claim from until names x =
    let listener = name_of names x.flow.listener x.flow.listener_at in
    let talker = name_of names x.flow.talker x.flow.talker_at in
    plain_row (shapes.kind_of claim) (rtp_name x.flow.listener) (shapes.peer_column x.flow.listener_at)
    (shapes.peer_member x.flow.listener_at) (rtp_name x.flow.talker) (shapes.peer_column x.flow.talker_at)
    (shapes.peer_member x.flow.talker_at) (decimal x.flow.context) (decimal x.first.tick) (shapes.tick_column x.end)
    (shapes.tick_member x.end) (shapes.time_column from x.first.date) (shapes.time_member from x.first.date)
    (shapes.time_column until (shapes.date_of_end x.end)) (shapes.time_member until (shapes.date_of_end x.end))
    (shapes.name_column listener) (shapes.name_member listener) (shapes.name_column talker) (shapes.name_member talker)
    ∙ sym (ap (λ (vs : List lines.Value). lines.row_of vs) (values_same (shapes.kind_of claim) from until names x))

object_same : (claim : Claim) (from until : List ℕ) (names : List Named) (x : Interval) →
    shapes.interval_object claim from until names x ≡
    lines.object_of (lines.interval_values (shapes.kind_of claim) from until names x)
object_same claim from until names x =
    let listener = name_of names x.flow.listener x.flow.listener_at in
    let talker = name_of names x.flow.talker x.flow.talker_at in
    plain_object (shapes.kind_of claim) (rtp_name x.flow.listener) (shapes.peer_column x.flow.listener_at)
    (shapes.peer_member x.flow.listener_at) (rtp_name x.flow.talker) (shapes.peer_column x.flow.talker_at)
    (shapes.peer_member x.flow.talker_at) (decimal x.flow.context) (decimal x.first.tick) (shapes.tick_column x.end)
    (shapes.tick_member x.end) (shapes.time_column from x.first.date) (shapes.time_member from x.first.date)
    (shapes.time_column until (shapes.date_of_end x.end)) (shapes.time_member until (shapes.date_of_end x.end))
    (shapes.name_column listener) (shapes.name_member listener) (shapes.name_column talker) (shapes.name_member talker)
    ∙ sym (ap (λ (vs : List lines.Value). lines.object_of vs) (values_same (shapes.kind_of claim) from until names x))

-- ## Gaps

gap_values : (k f e e' d d' u u' : List ℕ) → List lines.Value
gap_values k f e e' d d' u u' = lines.word k ∷ lines.left_out 5
    ++ ((f, Some f) ∷ (e, Some e') ∷ (d, Some d') ∷ (u, Some u') ∷ lines.left_out 2)

gap_row : (k f e e' d d' u u' : List ℕ) →
    k ++ (codes ",,,,,," ++ ((f ++ (codes "," ++ (e ++ (codes "," ++ (d ++ (codes "," ++ u)))))) ++ codes ",,\n"))
    ≡ lines.row_of (gap_values k f e e' d d' u u')
unfolding gap_values
gap_row k f e e' d d' u u' = simp append_assoc

quoted : (a k z x end : List ℕ) → a ++ (k ++ (z ++ (x ++ end))) ≡ a ++ (((k ++ z) ++ x) ++ end)
quoted a k z x end = simp append_assoc

gap_object : (k f e e' d d' u u' : List ℕ) →
    codes "{\"kind\":\"" ++ (k ++ (codes "\"" ++ ((codes ",\"first_tick\":" ++ (f ++ (codes ",\"end_tick\":" ++ (e'
    ++ (codes ",\"from\":" ++ (d' ++ (codes ",\"until\":" ++ u'))))))) ++ codes "}\n")))
    ≡ lines.object_of (gap_values k f e e' d d' u u')
unfolding gap_values
gap_object k f e e' d d' u u' = quoted (codes "{\"kind\":\"") k (codes "\"") (codes ",\"first_tick\":" ++ (f
    ++ (codes ",\"end_tick\":" ++ (e' ++ (codes ",\"from\":" ++ (d' ++ (codes ",\"until\":" ++ u')))))))
    (codes "}\n")

gap_values_same : (from until : List ℕ) (gap : Gap) →
    gap_values (lines.gap_word gap) (decimal gap.first.tick) (decimal gap.end.tick) (decimal gap.end.tick)
    (shapes.time_column from gap.first.date) (shapes.time_member from gap.first.date)
    (shapes.time_column until gap.end.date) (shapes.time_member until gap.end.date) ≡
    lines.word (lines.gap_word gap) ∷ lines.left_out 5 ++ (lines.extent_values from until gap.first (Some gap.end) ++ lines.left_out 2)
unfolding gap_values
gap_values_same from until gap = sym (λ i. lines.word (lines.gap_word gap) ∷ lines.left_out 5
    ++ (lines.number gap.first.tick ∷ lines.number gap.end.tick ∷ time_same from gap.first.date i
    ∷ time_same until gap.end.date i ∷ lines.left_out 2))

-- ## Lines

pub interval_same : (claim : Claim) (format : Format) (from until : List ℕ) (names : List Named) (x : Interval) →
    shapes.interval_shape claim format from until names x ≡
    lines.interval_line format (shapes.verb_of claim) (shapes.kind_of claim) from until names x
interval_same claim Text from until names x = sentence_same claim from until names x
interval_same claim Csv from until names x = row_same claim from until names x
interval_same claim Json from until names x = object_same claim from until names x
interval_same claim Page from until names x = page_same from until names x

pub gap_same : (format : Format) (from until : List ℕ) (gap : Gap) →
    shapes.gap_shape format from until gap ≡ lines.gap_line format from until gap
gap_same Text from until gap = refl
gap_same Csv from until gap = gap_row (lines.gap_word gap) (decimal gap.first.tick) (decimal gap.end.tick) (decimal gap.end.tick) (shapes.time_column from gap.first.date)
    (shapes.time_member from gap.first.date) (shapes.time_column until gap.end.date) (shapes.time_member until gap.end.date)
    ∙ ap (λ (vs : List lines.Value). lines.row_of vs) (gap_values_same from until gap)
gap_same Json from until gap = gap_object (lines.gap_word gap) (decimal gap.first.tick) (decimal gap.end.tick) (decimal gap.end.tick) (shapes.time_column from gap.first.date)
    (shapes.time_member from gap.first.date) (shapes.time_column until gap.end.date) (shapes.time_member until gap.end.date)
    ∙ ap (λ (vs : List lines.Value). lines.object_of vs) (gap_values_same from until gap)
gap_same Page from until gap = gap_page (decimal gap.first.tick) (decimal gap.end.tick)
    (lines.gap_word gap) (lines.moment_text from gap.first.tick gap.first.date) (lines.moment_text until gap.end.tick gap.end.date)

pub violation_sentence_same : (format : Format) (time : List ℕ) (names : List Named) (v : Violation) →
    (format ≡ Text) ⊎ (format ≡ Page) → shapes.violation_sentence time names v ≡ violation_line format time names v
unfolding violation_line
violation_sentence_same format time names v (inl is) = rw is (violation_same time names v)
violation_sentence_same format time names v (inr is) = rw is (violation_same time names v)

pub violation_line_same : (format : Format) (time : List ℕ) (names : List Named) (v : Violation) →
    shapes.violation_shape format time names v ≡ violation_line format time names v
unfolding violation_line
violation_line_same Text time names v = violation_same time names v
violation_line_same Page time names v = violation_same time names v
violation_line_same Csv time names v =
    row_same CouldHear time [] names (record { flow = v.flow; first = v.at; end = None })
violation_line_same Json time names v =
    object_same CouldHear time [] names (record { flow = v.flow; first = v.at; end = None })
