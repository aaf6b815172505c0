-- Reading a line.
use Rattle.std.proofs.Common.{◌≡◌, ◌∙◌, ℕ, zero, suc, ◌+◌, ◌<◌, true, false, List, [], ◌∷◌, ◌++◌, drop, get_or, take, Option, None, Some, IfSome, append-nil, append_assoc, ap, arith, length, length-append, refl, subst, sym}
use Rattle.std.specs.Io.BufRead.{drop_through, take_through, DropsThrough}
use Rattle.std.specs.Io.KnownBytes.{Consumes, IsAtEnd}
use Rattle.std.proofs.BufReadLemmas.{take_through_nonempty}
use Rattle.std.proofs.KnownBytes.{Consumes-trans}
use Rattle.memchr.specs.Find.{IsLastByte, is_byte}
use Rattle.std.proofs.lemmas.Bool.{true≢false}
use Rattle.sha2.specs.declared.Sha256.{Sha256}
use Rattle.sha2.specs.Hashers.{Holds256}
use Rattle.mg_chain.specs.Seals.{is_whole, last_part}
use Rattle.mg_chain.proofs.ReadLemmas.{line_whole, whole_append}
use Rattle.mg_joined.specs.aids.Reading.{HasReadLine, HasReadLines, HasTakenLines, IsBefore}
use Rattle.mg_joined.proofs.LaterLemmas.{line_and_rest}

-- The next line of a known text was read.
next_line : (before left line : List ℕ) (rest : Option (List ℕ)) (old new : Sha256) → 0 < length left →
    line ≡ take_through 10 left → rest ≡ Some (drop_through 10 left) → IsBefore before left old →
    ((text : List ℕ) → is_whole text ≡ true → Holds256 old (last_part text) → Holds256 new (last_part (text ++ line))) →
    HasReadLine before left true line rest new
next_line before left line rest old new some line_is rest_is (whole, holds) adds = record {
  line_is = line_is;
  rest_is = rest_is;
  none = λ none. absurd (true≢false none);
  is_before = (
    λ more. subst (λ (l : List ℕ). is_whole (before ++ l) ≡ true) (sym line_is)
        (whole_append before (take_through 10 left) (whole some) (line_whole left more)),
    adds before (whole some) holds,
  );
}

-- There is no line at the end of a text.
no_line : (before left line : List ℕ) (rest : Option (List ℕ)) (chain : Sha256) → left ≡ [] →
    line ≡ take_through 10 left → rest ≡ Some (drop_through 10 left) → IsBefore before left chain →
    HasReadLine before left false line rest chain
no_line before left line rest chain none line_is rest_is (whole, holds) =
    let empty : line ≡ [] = line_is ∙ ap (take_through 10) none in
    record {
      line_is = line_is;
      rest_is = rest_is;
      none = λ is. none;
      is_before = (
        λ more. absurd (subst (λ (l : List ℕ). (0 < length (drop_through 10 l)) → ⊥) (sym none) (λ h. omega (arith, h)) more),
        subst (λ (l : List ℕ). Holds256 chain (last_part l))
            (sym (ap (λ (l : List ℕ). before ++ l) empty ∙ append-nil before)) holds,
      );
    }

pub reads_line : (before left items filled line : List ℕ) (old rest : Option (List ℕ)) (chain new : Sha256) →
    old ≡ Some left → items ≡ [] → IfSome old (λ xs. filled ≡ items ++ take_through 10 xs) → DropsThrough old rest 10 →
    line ≡ filled → 0 < length line → IsBefore before left chain →
    ((text : List ℕ) → is_whole text ≡ true → Holds256 chain (last_part text) →
    Holds256 new (last_part (text ++ line))) → HasReadLine before left true filled rest new
reads_line before left items filled line old rest chain new known empty bytes drops same some is_before adds =
    let filled_is : filled ≡ items ++ take_through 10 left =
    subst (λ (o : Option (List ℕ)). IfSome o (λ xs. filled ≡ items ++ take_through 10 xs)) known bytes in
    let rest_is : rest ≡ Some (drop_through 10 left) =
    subst (λ (o : Option (List ℕ)). DropsThrough o rest 10) known drops in
    let is = filled_is ∙ ap (λ (l : List ℕ). l ++ take_through 10 left) empty in
    next_line before left filled rest chain new
    (take_through_nonempty 10 left (omega (arith, some, ap length (same ∙ is)))) is rest_is is_before
    (subst (λ (l : List ℕ). (text : List ℕ) → is_whole text ≡ true → Holds256 chain (last_part text) →
    Holds256 new (last_part (text ++ l))) same adds)

pub reads_none : (before left items line : List ℕ) (old rest : Option (List ℕ)) (chain : Sha256) → old ≡ Some left →
    items ≡ [] → IfSome old (λ xs. line ≡ items ++ take_through 10 xs) → DropsThrough old rest 10 → IsAtEnd old →
    IsBefore before left chain → HasReadLine before left false line rest chain
reads_none before left items line old rest chain known empty bytes drops ended is_before =
    let line_is : line ≡ items ++ take_through 10 left =
    subst (λ (o : Option (List ℕ)). IfSome o (λ xs. line ≡ items ++ take_through 10 xs)) known bytes in
    let rest_is : rest ≡ Some (drop_through 10 left) =
    subst (λ (o : Option (List ℕ)). DropsThrough o rest 10) known drops in
    let none : left ≡ [] = subst IsAtEnd known ended in
    no_line before left line rest chain none (line_is ∙ ap (λ (l : List ℕ). l ++ take_through 10 left) empty) rest_is
    is_before

-- ## Reading lines

-- A line of a known text was read, and then whole lines.
lines_read : (before left line more all : List ℕ) (mid rest : Option (List ℕ)) (old new : Sha256) → 0 < length left →
    line ≡ take_through 10 left → mid ≡ Some (drop_through 10 left) → all ≡ line ++ more → is_whole more ≡ true →
    Consumes mid rest more → IsBefore before left old →
    ((text : List ℕ) → is_whole text ≡ true → Holds256 old (last_part text) → Holds256 new (last_part (text ++ all))) →
    HasReadLines before left true all rest new
lines_read before left line more all mid None old new some line_is mid_is all_is ended consumed (whole, holds) adds =
    absurd (subst (λ (o : Option (List ℕ)). Consumes o None more) mid_is consumed)
lines_read before left line more all mid (Some after) old new some line_is mid_is all_is ended consumed (whole, holds) adds =
    let parts : drop_through 10 left ≡ more ++ after =
    subst (λ (o : Option (List ℕ)). Consumes o (Some after) more) mid_is consumed in
    record {
      after = after;
      parts = line_and_rest left
          ∙ ap (λ (l : List ℕ). l ++ drop_through 10 left) (sym line_is)
          ∙ ap (λ (l : List ℕ). line ++ l) parts ∙ sym (append_assoc line more after)
          ∙ ap (λ (l : List ℕ). l ++ after) (sym all_is);
      rest_is = refl;
      none = λ none. absurd (true≢false none);
      is_before = (
        λ further. subst (λ (l : List ℕ). is_whole (before ++ l) ≡ true) (sym all_is)
            (whole_append before (line ++ more) (whole some)
            (whole_append line more
            (subst (λ (l : List ℕ). is_whole l ≡ true) (sym line_is)
            (line_whole left (omega (arith, further, ap length parts, length-append more after)))) ended)),
        adds before (whole some) holds,
      );
    }

-- The bytes of a text up to a line feed are whole lines.
ends_whole : (text : List ℕ) (n : ℕ) → n < length text → is_byte 10 (get_or text n 0) ≡ true →
    is_whole (take (suc n) text) ≡ true
ends_whole [] n within is = absurd (omega arith)
ends_whole (b ∷ bs) zero within is = is
ends_whole (b ∷ []) (suc n) within is = absurd (omega (arith, within))
ends_whole (b ∷ c ∷ cs) (suc n) within is = ends_whole (c ∷ cs) n (omega (arith, within)) is

pub last_whole : (text : List ℕ) (n : ℕ) → IsLastByte (is_byte 10) text (Some n) → is_whole (take (n + 1) text) ≡ true
last_whole text n h =
    let next : suc n ≡ n + 1 = omega arith in
    subst (λ (k : ℕ). is_whole (take k text) ≡ true) next (ends_whole text n h.0.high h.1)

-- What was taken after a line is lost to the reader, too.
pub taken_too : (a b c : Option (List ℕ)) (items line all : List ℕ) → items ≡ [] →
    Consumes a b (drop (length items) line) → HasTakenLines b c line all → Consumes a c all
taken_too a b c items line all empty consumed h =
    subst (Consumes a c) (sym h.appended)
    (Consumes-trans a b c line h.lines (subst (λ (l : List ℕ). Consumes a b (drop (length l) line)) empty consumed)
    h.consumed)

pub reads_lines : (before left items line all added : List ℕ) (old mid rest : Option (List ℕ)) (chain new : Sha256) →
    old ≡ Some left → items ≡ [] → IfSome old (λ xs. line ≡ items ++ take_through 10 xs) → DropsThrough old mid 10 →
    0 < length line → HasTakenLines mid rest line all → added ≡ all → IsBefore before left chain →
    ((text : List ℕ) → is_whole text ≡ true → Holds256 chain (last_part text) →
    Holds256 new (last_part (text ++ added))) → HasReadLines before left true all rest new
reads_lines before left items line all added old mid rest chain new known empty bytes drops some taken same is_before adds =
    let line_is : line ≡ items ++ take_through 10 left =
    subst (λ (o : Option (List ℕ)). IfSome o (λ xs. line ≡ items ++ take_through 10 xs)) known bytes in
    let mid_is : mid ≡ Some (drop_through 10 left) =
    subst (λ (o : Option (List ℕ)). DropsThrough o mid 10) known drops in
    let is = line_is ∙ ap (λ (l : List ℕ). l ++ take_through 10 left) empty in
    lines_read before left line taken.lines all mid rest chain new
    (take_through_nonempty 10 left (omega (arith, some, ap length is))) is mid_is taken.appended taken.whole
    taken.consumed is_before
    (subst (λ (l : List ℕ). (text : List ℕ) → is_whole text ≡ true → Holds256 chain (last_part text) →
    Holds256 new (last_part (text ++ l))) same adds)
