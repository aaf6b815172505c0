use Rattle.std.proofs.Common.{length, arith}
use Rattle.mg_text.proofs.ReadLemmas.{answer_found, answer_proper, answer_sender, answer_only, answer_many, answer_many_only, answer_version, answer_version_only, answer_syntax}
use Rattle.mg_text.proofs.reading.read.Goals as goal

pub returns-clause-found : goal.returns-clause-found
returns-clause-found c = rw c.answered.ensures.value
    (answer_found c.args.source.now c.in_ok-tokens.tokens.items c.in_ok-tokens.fault (length c.args.source.now)
    (omega arith) c.in_ok-tokens.ensures c.versioned-message.result
    (rw (c.as_slice.ensures.value, c.is_some.ensures) at c.versioned-message.ensures))

pub returns-clause-proper : goal.returns-clause-proper
returns-clause-proper c = rw c.answered.ensures.value
    (answer_proper c.args.source.now c.in_ok-tokens.tokens.items c.in_ok-tokens.fault (length c.args.source.now)
    (omega arith) c.in_ok-tokens.ensures c.versioned-message.result
    (rw (c.as_slice.ensures.value, c.is_some.ensures) at c.versioned-message.ensures))

pub returns-clause-sender : goal.returns-clause-sender
returns-clause-sender c = rw c.answered.ensures.value
    (answer_sender c.args.source.now c.in_ok-tokens.tokens.items c.in_ok-tokens.fault (length c.args.source.now)
    (omega arith) c.in_ok-tokens.ensures c.versioned-message.result
    (rw (c.as_slice.ensures.value, c.is_some.ensures) at c.versioned-message.ensures))

pub returns-clause-only : goal.returns-clause-only
returns-clause-only c = rw c.answered.ensures.value
    (answer_only c.args.source.now c.in_ok-tokens.tokens.items c.in_ok-tokens.fault (length c.args.source.now)
    c.in_ok-tokens.ensures c.versioned-message.result
    (rw (c.as_slice.ensures.value, c.is_some.ensures) at c.versioned-message.ensures))

pub returns-clause-many : goal.returns-clause-many
returns-clause-many c = rw c.answered.ensures.value
    (answer_many c.args.source.now c.in_ok-tokens.tokens.items c.in_ok-tokens.fault (length c.args.source.now)
    c.in_ok-tokens.ensures c.versioned-message.result
    (rw (c.as_slice.ensures.value, c.is_some.ensures) at c.versioned-message.ensures))

pub returns-clause-long_only : goal.returns-clause-long_only
returns-clause-long_only c = rw c.answered.ensures.value
    (answer_many_only c.args.source.now c.in_ok-tokens.tokens.items c.in_ok-tokens.fault (length c.args.source.now)
    (omega arith) c.in_ok-tokens.ensures c.versioned-message.result
    (rw (c.as_slice.ensures.value, c.is_some.ensures) at c.versioned-message.ensures))

pub returns-clause-version : goal.returns-clause-version
returns-clause-version c = rw c.answered.ensures.value
    (answer_version c.args.source.now c.in_ok-tokens.tokens.items c.in_ok-tokens.fault (length c.args.source.now)
    c.in_ok-tokens.ensures c.versioned-message.result
    (rw (c.as_slice.ensures.value, c.is_some.ensures) at c.versioned-message.ensures))

pub returns-clause-version_only : goal.returns-clause-version_only
returns-clause-version_only c = rw c.answered.ensures.value
    (answer_version_only c.args.source.now c.in_ok-tokens.tokens.items c.in_ok-tokens.fault (length c.args.source.now)
    (omega arith) c.in_ok-tokens.ensures c.versioned-message.result
    (rw (c.as_slice.ensures.value, c.is_some.ensures) at c.versioned-message.ensures))

pub returns-clause-syntax : goal.returns-clause-syntax
returns-clause-syntax c = rw c.answered.ensures.value
    (answer_syntax c.args.source.now c.in_ok-tokens.tokens.items c.in_ok-tokens.fault (length c.args.source.now)
    c.in_ok-tokens.ensures c.versioned-message.result
    (rw (c.as_slice.ensures.value, c.is_some.ensures) at c.versioned-message.ensures))
