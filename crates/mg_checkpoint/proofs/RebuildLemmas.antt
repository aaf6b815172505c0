-- Engines that stay quiet, and the counts of a rebuilt state.
use Rattle.std.proofs.Common.{◌≡◌, ℕ, sym, ap, ◌∙◌, arith}
use Rattle.mg_core.specs.declared.counts.Counts.{Counts}
use Rattle.mg_core.specs.World.{capped, counts_of, no_events}
use Rattle.mg_engine.specs.aids.Stands.{EngineState}
use Rattle.mg_checkpoint.specs.aids.Rebuilt.{KeepsQuiet}

pub keeps_both : (a b c : EngineState) → KeepsQuiet a b → KeepsQuiet b c → KeepsQuiet a c
keeps_both a b c one two = record {
  config = two.config ∙ one.config;
  quiet = λ h. two.quiet (one.quiet h);
}

abbrev counts_with : ℕ → ℕ → Counts
counts_with control ticks = record (counts_of no_events) { control = control; ticks = ticks }

capped_twice : (n : ℕ) → capped n ≡ capped (capped n)
capped_twice n = omega arith

-- If only control datagrams and ticks were counted, the counts equal those of as many such events as the counts say.
pub counts_say : (x : Counts) (control ticks : ℕ)
    → x ≡ counts_of (record no_events { control = control; ticks = ticks })
    → x ≡ counts_of (record no_events { control = x.control; ticks = x.ticks })
counts_say x control ticks is =
    let one : capped control ≡ capped x.control = capped_twice control
    ∙ ap (λ (v : Counts). capped v.control) (sym is) in
    let two : capped ticks ≡ capped x.ticks = capped_twice ticks ∙ ap (λ (v : Counts). capped v.ticks) (sym is) in
    let same : counts_with (capped control) (capped ticks) ≡ counts_with (capped x.control) (capped x.ticks) = cc in
    is ∙ same
