-- Each exit of `read` proves `IsOutcome`, from which the postconditions follow.
use Rattle.std.proofs.Common.{◌≡◌, get_or, Result, Ok, Err, ap, ◌∙◌, arith, inr}
use Rattle.std.proofs.lemmas.Result.{err_from_is_err_and}
use Rattle.mg_rtp.specs.declared.packet.Packet.{Packet}
use Rattle.mg_rtp.specs.declared.rtp_fault.RtpFault.{RtpFault}
use Rattle.mg_rtp.specs.declared.rtp_fault.RtpFault.TheVariants.{Short, Extension, Padding}
use Rattle.mg_rtp.proofs.FaultParts.{as_fault}
use Rattle.mg_rtp.proofs.Joined.{three_parts, four_parts}
use Rattle.mg_rtp.proofs.Outcome.{IsOutcome, err_outcome, found_packet, only_packet, only_fault}
use Rattle.mg_rtp.proofs.Parts.{layout_of, begins_at, begins_with}
use Rattle.mg_rtp.proofs.reading.read.Goals as goal

pub returns-in_err-rest : goal.returns-in_err-rest
returns-in_err-rest c =
    let bytes = c.args.bytes.now in
    let head = c.split_at.result.0.now in
    let h = c.header_of-header.result in
    let begins = begins_at bytes head c.split_at.result.1.now h (λ i. omega (arith, c.type_inv.bytes i))
    c.if-bytes-lt-HEADER_LEN.false c.split_at.ensures.front c.split_at.ensures.back c.if-first-ne-RTP_VERSION.false
    c.header_of-header.ensures.fields c.header_of-header.ensures.within in
    let r = c.from_residual.result in
    let p = err_from_is_err_and r c.from_residual.ensures.1 in
    let is : r ≡ Err Short = p.1 ∙ ap (λ (e : RtpFault). Err e) (p.2 ∙ c.in_err-rest.ensures.err.0) in
    let outcome : IsOutcome bytes r = err_outcome bytes r Short is
    (as_fault bytes Short (inr (record {
      layout = layout_of (get_or head 0 0);
      header = h;
      rest = c.split_at.result.1.now;
      begins = begins;
      few = c.in_err-rest.ensures.err.1;
    }))) in
    record {
      found = found_packet bytes r outcome;
      only = only_packet bytes r outcome;
      fault = only_fault bytes r outcome;
    }

pub returns-in_err-rest-2 : goal.returns-in_err-rest-2
returns-in_err-rest-2 c =
    let bytes = c.args.bytes.now in
    let head = c.split_at.result.0.now in
    let h = c.header_of-header.result in
    let begins = begins_at bytes head c.split_at.result.1.now h (λ i. omega (arith, c.type_inv.bytes i))
    c.if-bytes-lt-HEADER_LEN.false c.split_at.ensures.front c.split_at.ensures.back c.if-first-ne-RTP_VERSION.false
    c.header_of-header.ensures.fields c.header_of-header.ensures.within in
    let sources = c.in_ok-rest.ensures.ok in
    let r = c.from_residual-in_err-rest-2.result in
    let p = err_from_is_err_and r c.from_residual-in_err-rest-2.ensures.1 in
    let is : r ≡ Err Extension = p.1 ∙ ap (λ (e : RtpFault). Err e) (p.2 ∙ c.in_err-rest-2.ensures.err.0) in
    let outcome : IsOutcome bytes r = err_outcome bytes r Extension is (as_fault bytes Extension (record {
      layout = layout_of (get_or head 0 0);
      header = h;
      sources = sources.0;
      rest = c.in_ok-rest.rest.now;
      begins = begins_with bytes _ h _ _ sources.2 begins;
      are_sources = sources.1;
      is_extended = c.in_err-rest-2.ensures.err.1;
      ends = c.in_err-rest-2.ensures.err.2;
    })) in
    record {
      found = found_packet bytes r outcome;
      only = only_packet bytes r outcome;
      fault = only_fault bytes r outcome;
    }

pub returns-in_err-payload : goal.returns-in_err-payload
returns-in_err-payload c =
    let bytes = c.args.bytes.now in
    let head = c.split_at.result.0.now in
    let h = c.header_of-header.result in
    let begins = begins_at bytes head c.split_at.result.1.now h (λ i. omega (arith, c.type_inv.bytes i))
    c.if-bytes-lt-HEADER_LEN.false c.split_at.ensures.front c.split_at.ensures.back c.if-first-ne-RTP_VERSION.false
    c.header_of-header.ensures.fields c.header_of-header.ensures.within in
    let sources = c.in_ok-rest.ensures.ok in
    let extension = c.in_ok-rest-2.ensures.ok in
    let r = c.from_residual-in_err-payload.result in
    let p = err_from_is_err_and r c.from_residual-in_err-payload.ensures.1 in
    let is : r ≡ Err Padding = p.1 ∙ ap (λ (e : RtpFault). Err e) (p.2 ∙ c.in_err-payload.ensures.err.0) in
    let outcome : IsOutcome bytes r = err_outcome bytes r Padding is (as_fault bytes Padding (record {
      layout = layout_of (get_or head 0 0);
      header = h;
      sources = sources.0;
      extension = extension.0;
      rest = c.in_ok-rest-2.rest.now;
      begins = begins_with bytes _ h _ _ (three_parts _ _ _ _ _ sources.2 extension.2) begins;
      are_sources = sources.1;
      is_extension = extension.1;
      is_padded = c.in_err-payload.ensures.err.1;
      bad = c.in_err-payload.ensures.err.2;
    })) in
    record {
      found = found_packet bytes r outcome;
      only = only_packet bytes r outcome;
      fault = only_fault bytes r outcome;
    }

pub returns : goal.returns
returns c =
    let bytes = c.args.bytes.now in
    let head = c.split_at.result.0.now in
    let h = c.header_of-header.result in
    let begins = begins_at bytes head c.split_at.result.1.now h (λ i. omega (arith, c.type_inv.bytes i))
    c.if-bytes-lt-HEADER_LEN.false c.split_at.ensures.front c.split_at.ensures.back c.if-first-ne-RTP_VERSION.false
    c.header_of-header.ensures.fields c.header_of-header.ensures.within in
    let sources = c.in_ok-rest.ensures.ok in
    let extension = c.in_ok-rest-2.ensures.ok in
    let padding = c.in_ok-payload.ensures.ok in
    let packet : Packet = record { header = h; payload = c.in_ok-payload.payload } in
    let r : Result Packet RtpFault = Ok packet in
    let outcome : IsOutcome bytes r = record {
      layout = layout_of (get_or head 0 0);
      sources = sources.0;
      extension = extension.0;
      padding = padding.0;
      begins = begins_with bytes _ h _ _ (four_parts _ _ _ _ _ _ _ sources.2 extension.2 padding.2) begins;
      are_sources = sources.1;
      is_extension = extension.1;
      is_padding = padding.1;
    } in
    record {
      found = found_packet bytes r outcome;
      only = only_packet bytes r outcome;
      fault = only_fault bytes r outcome;
    }
