use Rattle.std.proofs.Common.{◌<◌, ◌≤◌, arith, inl, inr, suc}
use Rattle.std.proofs.lemmas.Bool.{cases_lt}
use Rattle.mg_g711.specs.Law.{least_of, level_of}
use Rattle.mg_g711.proofs.Growing.{grows, grows_strictly}
use Rattle.mg_g711.proofs.Levels.{LiesIn-level_of, least_of_grows, level_of_lies}
use Rattle.mg_g711.proofs.theorems.level_is_the_last.Goals as goal

pub returns-clause-small : goal.returns-clause-small
returns-clause-small c = (level_of_lies c.args.law c.args.magnitude).small

pub returns-clause-begins : goal.returns-clause-begins
returns-clause-begins c = (level_of_lies c.args.law c.args.magnitude).from

pub returns-clause-last : goal.returns-clause-last
returns-clause-last c = λ k small begins.
    let lies = level_of_lies c.args.law c.args.magnitude in
    elim (cases_lt (level_of c.args.law c.args.magnitude) k) [
      | inr up_to ↦ up_to
      | inl above ↦
          let next : c.args.magnitude < least_of c.args.law (suc (level_of c.args.law c.args.magnitude)) =
          lies.to (omega arith) in
          let grown : least_of c.args.law (suc (level_of c.args.law c.args.magnitude)) ≤ least_of c.args.law k =
          grows 127 (least_of c.args.law) (least_of_grows c.args.law) _ k (omega arith) small in
          absurd (omega arith)
    ]

pub returns-clause-border : goal.returns-clause-border
returns-clause-border c = λ k small.
    LiesIn-level_of c.args.law (least_of c.args.law k) k (record {
      small = small;
      from = omega arith;
      to = λ below. grows_strictly 127 (least_of c.args.law) (least_of_grows c.args.law) k (suc k) (omega arith)
          (omega arith);
    })
