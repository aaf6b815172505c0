use Rattle.mg_engine.proofs.Common.{◌≡◌, ℕ, Result, Ok, Err, sym, view, Gateway, Record, StandsFor, Target}
use Rattle.std.specs.Prelude.{IfOk}
use Rattle.mg_words.specs.declared.error_number.ErrorNumber.{ErrorNumber}
use Rattle.mg_rooms.proofs.OutcomeLemmas.{member_found}
use Rattle.mg_rooms.specs.Outcome.{member}
use Rattle.mg_engine.specs.aids.Found.{HasStats}
use Rattle.mg_engine.specs.aids.Whole.{IsWholeEngine}
use Rattle.mg_engine.specs.declared.engine.Engine.TheInside.{Inside}
use Rattle.mg_engine.proofs.EditLemmas.{has_stats}
use Rattle.mg_engine.proofs.engine.Engine.find.Goals as goal

stats_if : (e : Inside) (target : Target) (n : ℕ) (r : Result Record ErrorNumber) → IsWholeEngine e →
    r ≡ member e.rooms target n → IfOk r (λ r. (w : Gateway) → StandsFor (view e) w → HasStats (view e) w r)
stats_if e target n (Ok r) whole is = λ w h. has_stats e w n r whole h (member_found e.rooms target n r (sym is))
stats_if e target n (Err x) whole is = tt

pub returns-clause-stats : goal.returns-clause-stats
returns-clause-stats c = rw (← c.self.view_is)
    (stats_if c.self.inside c.args.target c.args.number c.find.result c.self.invariant c.find.ensures.value)
