-- The number that a journal's notes reach, one note after another.
use Rattle.std.proofs.Common.{◌≡◌, ℕ, zero, suc, max, List, [], ◌∷◌, ◌++◌, codes, drop, length, take, Bool, true, cond, Option, None, Result, Ok, Err, OnOk, refl, sym, ap, ◌∙◌, subst, unwrap_or}
use Rattle.std.specs.Str.{bytes_eq}
use Rattle.mg_words.specs.Numbers.{number_of}
use Rattle.mg_words.specs.declared.peer.Peer.{Peer}
use Rattle.mg_core.specs.declared.stopped.Stopped.{Stopped}
use Rattle.mg_core.specs.declared.event.Event.TheVariants.{Control, Media, Tick}
use Rattle.mg_core.specs.Follow.{ticks_of}
use Rattle.mg_core.specs.Note.{Note, Comment, Happened}
use Rattle.mg_fence.specs.Number.{HasNumber}
use Rattle.mg_fence.specs.Reached.{Reaches, after_comment, number_set}

pub reaches_both : (a b c : ℕ) (p q : List Note) → Reaches a p b → Reaches b q c → Reaches a (p ++ q) c
reaches_both a b c [] q h k = subst (λ (m : ℕ). Reaches m q c) h k
reaches_both a b c (Comment line ∷ p) q h k = reaches_both (after_comment a line) b c p q h k
reaches_both a b c (Happened (Control source bytes) ∷ p) q (number, has, h) k =
    (number, has, reaches_both (max a (unwrap_or number 0)) b c p q h k)
reaches_both a b c (Happened (Media port source bytes) ∷ p) q h k = reaches_both a b c p q h k
reaches_both a b c (Happened Tick ∷ p) q h k = reaches_both a b c p q h k

pub reaches_ticks : (n count : ℕ) → Reaches n (ticks_of count) n
reaches_ticks n zero = refl
reaches_ticks n (suc count) = reaches_ticks n count

-- The number that an operator set in a comment is read from the text after the comment's mark.
pub set_read : (line mark text : List ℕ) → mark ≡ codes "# fence " → bytes_eq (take (length mark) line) mark ≡ true →
    text ≡ drop (length mark) line → number_of text ≡ number_set line
set_read line mark text is begins rest =
    let same : text ≡ drop 8 line = rest ∙ ap (λ (l : List ℕ). drop (length l) line) is in
    let first = subst (λ (l : List ℕ). bytes_eq (take (length l) line) l ≡ true) is begins in
    ap number_of same
    ∙ sym (ap (λ (b : Bool). cond b (number_of (drop 8 line)) None) first)

-- After one more comment, the notes reach the number after this comment.
pub reaches_comment : (notes : List Note) (line : List ℕ) (old new : ℕ) → Reaches 0 notes old →
    new ≡ after_comment old line → Reaches 0 (notes ++ Comment line ∷ []) new
reaches_comment notes line old new h is = reaches_both 0 old new notes (Comment line ∷ []) h is

pub reaches_message : (result : Result (Unit {0}) Stopped) (notes : List Note) (source : Peer) (bytes : List ℕ) (old new : ℕ) →
    Reaches 0 notes old →
    OnOk result ((number : Option ℕ) × HasNumber bytes number × (new ≡ max old (unwrap_or number 0))) →
    OnOk result (Reaches 0 (notes ++ Happened (Control source bytes) ∷ []) new)
reaches_message (Ok done) notes source bytes old new h message =
    reaches_both 0 old new notes (Happened (Control source bytes) ∷ []) h message
reaches_message (Err stopped) notes source bytes old new h message = tt

pub reaches_media : (notes : List Note) (port : ℕ) (source : Peer) (bytes : List ℕ) (n : ℕ) → Reaches 0 notes n →
    Reaches 0 (notes ++ Happened (Media port source bytes) ∷ []) n
reaches_media notes port source bytes n h = reaches_both 0 n n notes (Happened (Media port source bytes) ∷ []) h refl

pub reaches_more : (notes : List Note) (count n : ℕ) → Reaches 0 notes n → Reaches 0 (notes ++ ticks_of count) n
reaches_more notes count n h = reaches_both 0 n n notes (ticks_of count) h (reaches_ticks n count)
