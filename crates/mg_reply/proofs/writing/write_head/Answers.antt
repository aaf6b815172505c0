use Rattle.std.proofs.Common.{arith, ◌++◌, codes, decimal}
use Rattle.mg_words.specs.Address.{address_text}
use Rattle.mg_bytes.proofs.AppendedLemmas.{after}
use Rattle.mg_reply.proofs.WrittenLemmas.{head_short}
use Rattle.mg_reply.proofs.writing.write_head.Goals as goal

pub returns-clause-value : goal.returns-clause-value
returns-clause-value c =
    let end = c.push-3.new.self in
    let line = codes "\n" in
    let port = decimal c.args.port in
    let d = after c.push-2.new.self c.write_port.new.out end port line c.write_port.ensures.value
    c.push-3.ensures.value in
    let e = after c.write_address.new.out c.push-2.new.self end (codes "]:") (port ++ line) c.push-2.ensures.value d in
    let f = after c.push.new.self c.write_address.new.out end (address_text c.args.address)
    (codes "]:" ++ (port ++ line)) c.write_address.ensures.value e in
    after c.args.out.now c.push.new.self end (codes "MEGACO/1 [")
    (address_text c.args.address ++ (codes "]:" ++ (port ++ line))) c.push.ensures.value f

pub returns-clause-short : goal.returns-clause-short
returns-clause-short c = head_short c.args.address c.args.port c.write_address.ensures.short (omega arith)
