use Rattle.std.proofs.Common.{◌≡◌, ◌∙◌, sym}
use Rattle.mg_program.proofs.VerifyLemmas.{from_files}
use Rattle.mg_program.proofs.verify.verify.Goals as goal

pub returns-in-Some-2-clause-value : goal.returns-in-Some-2-clause-value
returns-in-Some-2-clause-value g c =
    from_files c.args.file.now c.in-Some-2.path c.args.later.now (g.E.Host.Tells.calls c.args.outside.now.host)
    (g.E.Host.Tells.calls c.verify_files.new.outside.host) (g.E.Input.Read.remaining c.args.outside.now.input)
    (g.E.Output.Write.contents c.args.outside.now.output) (g.E.Output.Write.contents c.verify_files.new.outside.output)
    (c.verify_files.new.outside.errors ≡ c.args.outside.now.errors) c.verify_files.result c.end_status.result c.in-Some-2.is
    (sym c.is_empty.ensures ∙ c.if-is_empty.false) c.end_status.ensures.value c.verify_files.ensures.value
