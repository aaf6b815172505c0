use Rattle.std.proofs.Common.{ℕ, List, Err, sym, subst}
use Rattle.mg_journal.specs.declared.append_fault.AppendFault.TheVariants.{Refused}
use Rattle.mg_journal.specs.Text.{EndsInLineFeed}
use Rattle.mg_journal.specs.Journal.{JournalState, text_to_seal}
use Rattle.mg_ports.specs.Journaled.{RenewsDated}
use Rattle.mg_dates.specs.aids.Texts.{IsJoined}
use Rattle.mg_ports.proofs.FollowLemmas.{unchanged}
use Rattle.mg_dates.proofs.DateLemmas.{joined_feed, renews}
use Rattle.mg_dates.proofs.dated_journal.DatedJournal.renew.Goals as goal

pub returns-in_default-clause-value : goal.returns-in_default-clause-value
returns-in_default-clause-value g c = unchanged c.args.text.now.items c.args.durability c.args.self.now Refused

pub returns-in_default-of-clause-value : goal.returns-in_default-of-clause-value
returns-in_default-of-clause-value g c = unchanged c.args.text.now.items c.args.durability c.args.self.now Refused

pub returns-in_default-push_joint-clause-value : goal.returns-in_default-push_joint-clause-value
returns-in_default-push_joint-clause-value g c =
    let journal = g.J.Journal.journal c.self.inside.journal in
    subst (λ (j : JournalState). RenewsDated c.args.text.now.items c.args.durability j journal (Err Refused))
    c.self.view_is (unchanged c.args.text.now.items c.args.durability journal Refused)

pub renew-result-requires : goal.renew-result-requires
renew-result-requires g c =
    let known = text_to_seal (g.J.Journal.journal c.self.inside.journal) in
    record {
      line_feed = subst EndsInLineFeed (sym c.as_slice.ensures.value)
          (joined_feed known c.in-Some.line c.args.text.now.items c.push_joint.new.text.items
          c.in-Ok-push_joint.ensures.joined);
    }

pub returns-then-is_ok : goal.returns-then-is_ok
returns-then-is_ok g c =
    let known = text_to_seal (g.J.Journal.journal c.self.inside.journal) in
    let joined = subst (λ (l : List ℕ). IsJoined known c.in-Some.line c.args.text.now.items l)
    (sym c.as_slice.ensures.value) c.in-Ok-push_joint.ensures.joined in
    record {
      value = subst (λ (j : JournalState). RenewsDated c.args.text.now.items c.args.durability j
          (g.J.Journal.journal c.renew-result.new.self) c.renew-result.result) c.self.view_is
          (renews c.args.text.now.items c.in-Some.line c.as_slice.result.now c.args.durability
          (g.J.Journal.journal c.self.inside.journal) (g.J.Journal.journal c.renew-result.new.self) c.renew-result.result
          c.push_joint.ensures.short joined c.renew-result.ensures.value);
      front = c.push_joint.ensures.front;
    }

pub returns-else-is_ok-clause-value : goal.returns-else-is_ok-clause-value
returns-else-is_ok-clause-value g c =
    let known = text_to_seal (g.J.Journal.journal c.self.inside.journal) in
    let joined = subst (λ (l : List ℕ). IsJoined known c.in-Some.line c.args.text.now.items l)
    (sym c.as_slice.ensures.value) c.in-Ok-push_joint.ensures.joined in
    subst (λ (j : JournalState). RenewsDated c.args.text.now.items c.args.durability j
    (g.J.Journal.journal c.renew-result.new.self) c.renew-result.result) c.self.view_is
    (renews c.args.text.now.items c.in-Some.line c.as_slice.result.now c.args.durability
    (g.J.Journal.journal c.self.inside.journal) (g.J.Journal.journal c.renew-result.new.self) c.renew-result.result
    c.push_joint.ensures.short joined c.renew-result.ensures.value)
