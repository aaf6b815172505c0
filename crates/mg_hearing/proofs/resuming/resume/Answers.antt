use Rattle.std.proofs.Common.{rules, ◌≡◌, ◌∙◌, Some, refl}
use Rattle.mg_hearing.specs.aids.Beginning.{checkpoint_of}
use Rattle.mg_hearing.proofs.ResumeLemmas.{leaves_base}
use Rattle.mg_hearing.proofs.resuming.resume.Goals as goal

pub returns-in-Ok-restore : goal.returns-in-Ok-restore
returns-in-Ok-restore g c =
    let start = c.in-Ok.beginning.start in
    let left = g.R.Read.remaining in
    let is : checkpoint_of start ≡ Some c.in-Some.text.items = rw c.in-Some.is refl in
    let same : start.config ≡ c.args.config = search rules in
    let (base, is_base, config_is, quiet, text_is, stands) = c.in-Ok-restore.ensures.base in
    record {
      value = (
        base,
        stands,
        leaves_base start.config c.args.config (checkpoint_of start) c.in-Ok.beginning.front.items
            c.in-Some.text.items (left c.args.reader.now) (left c.begin.new.reader) base is same c.in-Ok.ensures.value
            is_base config_is quiet (text_is ∙ c.as_slice.ensures.value),
      );
    }
