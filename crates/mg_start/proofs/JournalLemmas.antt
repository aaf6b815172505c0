-- The lines that a gateway appends to its journal before it starts.
use Rattle.std.proofs.Common.{◌≡◌, ◌⊎◌, inl, inr, ℕ, ◌==◌, Bool, true, false, decimal, List, [], ◌∷◌, ◌++◌, codes, Option, Some, None, refl, sym, ap, subst, ◌∙◌, append_assoc, append-nil, Result, Ok, Err, OnOk}
use Rattle.std.specs.Io.KnownBytes.{append_known}
use Rattle.mg_engine.specs.declared.config.Config.{Config}
use Rattle.mg_journal.specs.declared.durability.Durability.TheVariants.{Written}
use Rattle.mg_journal.specs.declared.append_fault.AppendFault.{AppendFault}
use Rattle.mg_journal.specs.Journal.{Appends, JournalState, appended}
use Rattle.mg_journal.specs.Text.{EndsInLineFeed}
use Rattle.mg_journal.proofs.TextLemmas.{ends_line}
use Rattle.mg_core.specs.Counted.{ticks_line}
use Rattle.mg_start.specs.Journal.{fence_comment, missed_lines, start_lines}
use Rattle.mg_start.specs.aids.Starting.{HasBegun}
use Rattle.mg_service.specs.Title.{title_line}
use Rattle.mg_service.specs.Title.{title_text}

pub known_none : (text : Option (List ℕ)) → append_known text [] ≡ text
known_none None = refl
known_none (Some text) = ap (λ (l : List ℕ). Some l) (append-nil text)

-- A working journal to which the title and then the start lines were appended has begun.
pub begins : (title : List ℕ) (missed : ℕ) (fence : Option ℕ) (found : Option (List ℕ)) (titled last : JournalState)
    → titled.is_broken ≡ false → titled.text ≡ append_known found title
    → last ≡ appended (start_lines missed fence) Written titled → HasBegun title missed fence found last
begins title missed fence found titled last works text is = record {
  works = ap (λ (j : JournalState). j.is_broken) is ∙ works;
  text = ap (λ (j : JournalState). j.text) is
      ∙ ap (λ (t : Option (List ℕ)). append_known t (start_lines missed fence)) text;
}

feed_after : (front text : List ℕ) → EndsInLineFeed (front ++ (text ++ codes "\n"))
feed_after front text = subst EndsInLineFeed (append_assoc front text (10 ∷ [])) (ends_line (front ++ text))

-- The title line ends in a line feed.
pub title_feed : (config : Config) → EndsInLineFeed (title_line config)
title_feed config = feed_after (codes "# ") (title_text config)

-- The text isn't empty, and ends with a line feed.
abbrev Ends : List ℕ → Type 0
Ends text = (line : List ℕ) × (text ≡ line ++ 10 ∷ [])

then_ends : (front text : List ℕ) → Ends text → Ends (front ++ text)
then_ends front text (line, is) =
    (front ++ line, ap (λ (l : List ℕ). front ++ l) is ∙ sym (append_assoc front line (10 ∷ [])))

none_or_more : (front text : List ℕ) → Ends front → (text ≡ []) ⊎ Ends text → Ends (front ++ text)
none_or_more front text ends (inl none) =
    subst Ends (sym (append-nil front) ∙ ap (λ (l : List ℕ). front ++ l) (sym none)) ends
none_or_more front text ends (inr more) = then_ends front text more

both_end : (a b : List ℕ) → (a ≡ []) ⊎ Ends a → (b ≡ []) ⊎ Ends b → (a ++ b ≡ []) ⊎ Ends (a ++ b)
both_end a b (inl none) other = subst (λ (l : List ℕ). (l ++ b ≡ []) ⊎ Ends (l ++ b)) (sym none) other
both_end a b (inr ends) other = inr (none_or_more a b ends other)

missed_end : (missed : ℕ) (none : Bool) → (missed == 0) ≡ none → (missed_lines missed ≡ []) ⊎ Ends (missed_lines missed)
missed_end missed true is = inl (rw is refl)
missed_end missed false is =
    inr (rw is (then_ends (codes "# missed ") _ (then_ends (decimal missed) _ (then_ends (codes " ticks\n") _
    (then_ends (codes "ticks ") _ (decimal missed, refl))))))

fence_ends : (fence : Option ℕ) → (fence_comment fence ≡ []) ⊎ Ends (fence_comment fence)
fence_ends None = inl refl
fence_ends (Some number) = inr (then_ends (codes "# fence ") _ (decimal number, refl))

-- The lines that are appended before a gateway starts end in a line feed.
pub start_feed : (missed : ℕ) (fence : Option ℕ) → EndsInLineFeed (start_lines missed fence)
start_feed missed fence =
    let (line, is) = none_or_more (codes "# counted ticks\n") (missed_lines missed ++ fence_comment fence)
    (codes "# counted ticks", refl)
    (both_end (missed_lines missed) (fence_comment fence) (missed_end missed (missed == 0) refl) (fence_ends fence)) in
    subst EndsInLineFeed (sym is) (ends_line line)

pub start_appended : (result : Result (Unit {0}) AppendFault) (missed : ℕ) (fence : Option ℕ) (lines : List ℕ)
    (old new : JournalState) → lines ≡ start_lines missed fence → Appends lines Written old new result
    → OnOk result (new ≡ appended (start_lines missed fence) Written old)
start_appended (Ok done) missed fence lines old new is appends =
    appends.1 ∙ ap (λ (l : List ℕ). appended l Written old) is
start_appended (Err fault) missed fence lines old new is appends = tt

-- If the pieces of the lines for missed ticks are appended one after another, exactly these lines are appended.
pub missed_extended : (missed : ℕ) (a b c d e digits line : List ℕ) → (missed == 0) ≡ false → b ≡ a ++ codes "# missed "
    → c ≡ b ++ digits → d ≡ c ++ codes " ticks\n" → e ≡ d ++ line → digits ≡ decimal missed → line ≡ ticks_line missed
    → e ≡ a ++ missed_lines missed
missed_extended missed a b c d e digits line some first second third last number ticks =
    rw some (last ∙ (ap (λ (l : List ℕ). l ++ line) (third ∙ ap (λ (l : List ℕ). l ++ codes " ticks\n")
    (second ∙ ap (λ (l : List ℕ). l ++ digits) first))
    ∙ (append_assoc ((a ++ codes "# missed ") ++ digits) (codes " ticks\n") line
    ∙ (append_assoc (a ++ codes "# missed ") digits (codes " ticks\n" ++ line)
    ∙ (append_assoc a (codes "# missed ") (digits ++ (codes " ticks\n" ++ line))
    ∙ (ap (λ (l : List ℕ). a ++ (codes "# missed " ++ (l ++ (codes " ticks\n" ++ line)))) number
    ∙ ap (λ (l : List ℕ). a ++ (codes "# missed " ++ (decimal missed ++ (codes " ticks\n" ++ l)))) ticks))))))
