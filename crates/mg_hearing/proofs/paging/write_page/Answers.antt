use Rattle.std.proofs.Common.{List, Option, refl, subst, sym, take, ℕ}
use Rattle.mg_options.specs.declared.status.Status.{Status}
use Rattle.mg_core.specs.Note.{events_in}
use Rattle.mg_heard.specs.aids.Calling.{AreMissing}
use Rattle.mg_hearing.specs.Absence.{Receives, absences}
use Rattle.mg_hearing.specs.Heard.{IsHeard, Prints}
use Rattle.mg_heard.specs.Came.{unless_missing}
use Rattle.mg_options.specs.declared.status.Status.TheVariants.{Done, Unknown}
use Rattle.mg_hearing.specs.Page.{IsDigest, script_name}
use Rattle.mg_hearing.specs.aids.Parts.{WritesTable}
use Rattle.mg_hearing.proofs.AbsenceLemmas.{reported}
use Rattle.mg_hearing.proofs.HashLemmas.{known_text, second_at_end}
use Rattle.mg_hearing.proofs.HeardLemmas.{is_heard, prints_more}
use Rattle.mg_hearing.proofs.PageLemmas.{as_page}
use Rattle.mg_hearing.proofs.paging.write_page.Goals as goal

pub new-hashed-requires : goal.new-hashed-requires
new-hashed-requires g c = record {
  text = known_text g.K.TextKey.text (g.R.Read.remaining c.args.reader.now) c.requires.text;
}

pub returns-in-Ok-write_back : goal.returns-in-Ok-write_back
returns-in-Ok-write_back g c =
    let request = c.args.asking.request.now in
    let asked = c.args.asking.question in
    let left = g.R.Read.remaining in
    let held = g.W.Write.contents in
    let said = Receives g.E.Write.contents c.args.errors.now c.report_missing.new.errors in
    let script = left c.args.reader.now in
    let old = held c.args.output.now in
    let mid = held c.write_table.new.output in
    let new = held c.write_back.new.output in
    let missing = c.in-Ok.missing in
    let status = unless_missing Unknown missing Done in
    let text = absences (script_name request.file request.later) request.query.talker request.query.listener missing in
    let begun = rw c.new-hashed.ensures.inner at c.in_ok-front.ensures.value in
    let (scale, origin, scaled, from, writes) = c.in-Ok-write_back.ensures.value in
    let (base, begins, state, h) =
    rw (c.chain-script.ensures.bytes, c.as_slice.ensures.value) at c.in-Ok.ensures.value in
    let ended = second_at_end _ _ _ _ refl (h.read.at_end refl) in
    let hashed = subst (λ (t : Option (List ℕ)). IsDigest t (take 64 c.of-origin.result.script.end)) (sym c.requires.text)
    (c.of-origin.ensures.script (rw c.into_inner-hashed.ensures.second ended)) in
    let printed = prints_more base _ _ state
    (λ notes. AreMissing base (events_in notes) asked.query.talker asked.query.listener missing)
    (λ _. WritesTable request asked old mid)
    (Prints asked.style.format asked.at request asked script old new missing status)
    (λ extent xs t. as_page request asked script old mid new scale _ origin missing extent xs c.requires.page scaled hashed
    from writes t) h in
    record {
      value = reported (λ (s : Status). IsHeard request asked script old new said s) status c.report_missing.result
          (said text)
          (λ says. is_heard request asked c.in_ok-front.field-0.start script _ c.in_ok-front.field-0.front.items old new said missing status begun says
          (base, begins, _, state, printed))
          (rw c.status_if.ensures.value at c.report_missing.ensures.value);
    }
