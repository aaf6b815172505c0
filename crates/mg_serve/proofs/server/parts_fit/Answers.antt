use Rattle.std.proofs.Common.{ℕ, ◌<◌, arith}
use Rattle.std.proofs.lemmas.List.Elements.{All-from_get_or}
use Rattle.mg_serve.proofs.server.parts_fit.Goals as goal

pub returns : goal.returns
returns c = record {
  fit = record {
    four = c.requires.four;
    parts = All-from_get_or (λ (b : ℕ). b < 256) c.args.address.now 0 (λ i lt. omega (arith, c.type_inv.address i));
    port = omega (arith, c.ranges.port);
    length_is = c.requires.short;
    bytes_are = All-from_get_or (λ (b : ℕ). b < 256) c.args.bytes.now 0 (λ i lt. omega (arith, c.type_inv.bytes i));
  };
}
