use Rattle.std.proofs.Common.{rules}
use Rattle.mg_hearing.proofs.HashLemmas.{hashed_whole}
use Rattle.mg_hearing.proofs.hashed.Hashed.digest.Goals as goal

pub returns : goal.returns
returns g c = record {
  whole = λ at_end. hashed_whole g.K.TextKey.text (g.R.Read.remaining c.args.self.now.inner) c.args.self.now.chain
      c.seal_end.result (search rules) at_end c.seal_end.ensures.value c.args.self.now.hashed;
}
