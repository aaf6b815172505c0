-- How adding an argument or a subcommand changes a command line.
use Rattle.std.proofs.Common.{◌≡◌, ◌∙◌, ◌&&◌, Bool, true, false, not, ap, ap₂}
use Rattle.std.proofs.lemmas.Bool.{and_parts, not-true}
use Rattle.clap.specs.Built.{AddsArg, AddsSubcommand}
use Rattle.clap.specs.Walk.{Rule, is_empty, rule_of}
use Rattle.clap.specs.Simple.{App, app_of, shape_of, with_rule, with_subcommand}
use Rattle.std.specs.Prelude.{is_some}
use Rattle.clap.specs.declared.builder.arg.Arg.{Arg}
use Rattle.clap.specs.declared.builder.command.Command.{Command}
use Rattle.clap.specs.declared.builder.command.Command.TheViews.{out-Command}

rest : (a b : Bool) → (a && b) ≡ true → b ≡ true
rest a b e = (and_parts a b e).1

is_local : (a : Arg) → (rule_of a).is_simple ≡ true → a.global ≡ false
is_local a simple =
    let default_ifs = rest (is_empty a.overrides.items) _ simple in
    let groups = rest (is_empty a.default_vals_ifs.items) _ default_ifs in
    let delimiter = rest (is_empty a.groups.items) _ groups in
    let terminator = rest (not (is_some a.val_delim)) _ delimiter in
    let hyphens = rest (not (is_some a.terminator)) _ terminator in
    let negatives = rest (not a.allow_hyphen_values) _ hyphens in
    let equals = rest (not a.allow_negative_numbers) _ negatives in
    let last = rest (not a.require_equals) _ equals in
    not-true a.global (rest (not a.last) _ last)

has_no_globals : (c : Command) → (shape_of c).is_plain ≡ true → (out-Command c).has_globals ≡ false
has_no_globals c plain =
    let external = rest (is_empty (out-Command c).groups.items) _ plain in
    let globals = rest (not (out-Command c).allow_external_subcommands) _ external in
    not-true (out-Command c).has_globals (and_parts (not (out-Command c).has_globals) _ globals).0

-- Adding a simple argument appends its rule to the rules of the command line.
pub adds_rule : (old new : Command) (a : Arg) (line : App) (rule : Rule) → AddsArg old a new → app_of old ≡ line →
    rule_of a ≡ rule
    → rule.is_simple ≡ true → app_of new ≡ with_rule line rule
adds_rule old new a line rule added was is simple =
    added.shape (is_local a (ap (λ (r : Rule). r.is_simple) is ∙ simple)) ∙ ap₂ with_rule was is

-- Adding a plain subcommand appends the subcommand to the command line.
pub adds_subcommand : (old new sub : Command) (line below : App) → AddsSubcommand old sub new → app_of old ≡ line →
    app_of sub ≡ below
    → below.top.is_plain ≡ true → app_of new ≡ with_subcommand line below.top
adds_subcommand old new sub line below added was is plain =
    added.shape (has_no_globals sub (ap (λ (a : App). a.top.is_plain) is ∙ plain)) ∙
    ap₂ with_subcommand was (ap (λ (a : App). a.top) is)
