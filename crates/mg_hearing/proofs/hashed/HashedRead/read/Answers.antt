use Rattle.mg_hearing.proofs.HashLemmas.{hashed_kept, hashed_more}
use Rattle.mg_hearing.proofs.hashed.HashedRead.read.Goals as goal

pub invariant_of-self : goal.invariant_of-self
invariant_of-self g c = record {
  hashed = hashed_more g.K.TextKey.text (g.R.Read.remaining c.args.self.now.inner)
      (g.R.Read.remaining c.read.new.self) c.args.self.now.chain c.extend.new.self _ c.in-Ok.ensures.bytes.0
      c.extend.ensures.value c.args.self.now.hashed;
}

pub invariant_of-self-in-Err-1 : goal.invariant_of-self-in-Err-1
invariant_of-self-in-Err-1 g c = record {
  hashed = hashed_kept g.K.TextKey.text (g.R.Read.remaining c.args.self.now.inner)
      (g.R.Read.remaining c.read.new.self) c.args.self.now.chain c.in-Err.ensures.bytes c.args.self.now.hashed;
}
