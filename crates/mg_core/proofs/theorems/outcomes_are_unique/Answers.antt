use Rattle.std.proofs.Common.{◌≡◌, ℕ, List, [], ◌∷◌, ◌++◌, Option, sym, ap, subst, ◌∙◌}
use Rattle.mg_engine.specs.declared.taken.Taken.{Taken}
use Rattle.mg_engine.specs.Arrival.{Takes}
use Rattle.mg_engine.specs.Gateway as engine
use Rattle.mg_text.specs.MessageReading.{MessageReading, IsMessageReading}
use Rattle.mg_core.specs.declared.event.Event.{Event}
use Rattle.mg_core.specs.declared.event.Event.TheVariants.{Control, Media, Tick}
use Rattle.mg_core.specs.declared.shown.Shown.TheVariants as shows
use Rattle.mg_core.specs.Answer.{answered}
use Rattle.mg_core.specs.Flows.{changes_by}
use Rattle.mg_core.specs.Run.{ReportsChanges, TextIsDetermined, lines_for}
use Rattle.mg_core.specs.Step.{Sent, Step, Run, answer_to}
use Rattle.mg_core.specs.World.{World, with_control, with_taken}
use Rattle.mg_core.proofs.theorems.outcomes_are_unique.Goals as goal

abbrev OneReading : Type 0
OneReading = (bytes : List ℕ) (a b : MessageReading) → IsMessageReading bytes a → IsMessageReading bytes b → a ≡ b

abbrev OneArrival : Type 0
OneArrival = (w : engine.Gateway) (port : ℕ) (source list : List ℕ) (x y : engine.Gateway) (a b : Taken) →
    Takes w port source list x a → Takes w port source list y b → (x ≡ y) × (a ≡ b)

same_outcome : OneReading → OneArrival → (w : World) (event : Event) (a b : List Sent) (x y : World) →
    Step w event a x → Step w event b y → (a ≡ b) × (x ≡ y)
same_outcome reads arrives w (Control source bytes) a b x y (answer, (r, is, e), sent) (other, (q, too, f), also) =
    let same = sym e ∙ ap (λ (z : MessageReading). answered bytes z (with_control w)) (reads bytes r q is too) ∙ f in (
      sent ∙ ap (λ (p : Option (List ℕ) × World). answer_to source p.0) same ∙
          sym also,
      ap (λ (p : Option (List ℕ) × World). p.1) same,
    )
same_outcome reads arrives w (Media port source bytes) a b x y (taken, (g, takes, is), sent)
    (other, (k, too, its), also) =
    let same = arrives w.gateway port source.address bytes g k taken other takes too in (
      sent ∙ sym also,
      is
          ∙ ap (λ (z : engine.Gateway). record w { gateway = z; tally = with_taken taken w.tally }) same.0
          ∙ ap (λ (t : Taken). record w { gateway = k; tally = with_taken t w.tally }) same.1
          ∙ sym its,
    )
same_outcome reads arrives w Tick a b x y h k = (h.0 ∙ sym k.0, h.1 ∙ sym k.1)

same_run : OneReading → OneArrival → (w : World) (events : List Event) (a b : List Sent) (x y : World) →
    Run w events a x → Run w events b y → (a ≡ b) × (x ≡ y)
same_run reads arrives w [] a b x y h k = (h.0 ∙ sym k.0, h.1 ∙ sym k.1)
same_run reads arrives w (e ∷ es) a b x y (first, others, next, step, run, is) (second, rest, also, too, runs, its) =
    let same = same_outcome reads arrives w e first second next also step too in
    let later = same_run reads arrives also es others rest x y (subst (λ (v : World). Run v es others x) same.1 run)
    runs in
    (is ∙ ap (λ (l : List Sent). l ++ others) same.0 ∙ ap (λ (l : List Sent). second ++ l) later.0 ∙ sym its, later.1)

same_tells : OneReading → OneArrival → (w : World) (events : List Event) (a b : List ℕ) (x y : World) →
    ReportsChanges w events a x → ReportsChanges w events b y → a ≡ b
same_tells reads arrives w [] a b x y h k = h.0 ∙ sym k.0
same_tells reads arrives w (e ∷ es) a b x y (first, others, next, step, reported, is)
    (second, rest, also, too, tells, its) =
    let same = same_outcome reads arrives w e first second next also step too in
    let later = same_tells reads arrives also es others rest x y
    (subst (λ (v : World). ReportsChanges v es others x) same.1 reported)
    tells in
    is ∙ ap (λ (l : List Sent). lines_for l ++ (changes_by w next ++ others)) same.0
    ∙ ap (λ (v : World). lines_for second ++ (changes_by w v ++ others)) same.1
    ∙ ap (λ (l : List ℕ). lines_for second ++ (changes_by w also ++ l)) later ∙ sym its

same_text : OneReading → OneArrival → TextIsDetermined
same_text reads arrives shows.Sent w x y events s t a b run runs h k =
    h ∙ ap lines_for (same_run reads arrives w events s t x y run runs).0 ∙ sym k
same_text reads arrives shows.SentAndFlows w x y events s t a b run runs h k =
    same_tells reads arrives w events a b x y h k

pub returns : goal.returns
returns c = record {
  event = same_outcome c.one_reading.ensures.at_most_one c.one_arrival.ensures.at_most_one;
  events = same_run c.one_reading.ensures.at_most_one c.one_arrival.ensures.at_most_one;
  texts = same_text c.one_reading.ensures.at_most_one c.one_arrival.ensures.at_most_one;
}
