use Rattle.std.proofs.Common.{rules}
use Rattle.mg_rtp.proofs.Parts.{plain_packet}
use Rattle.mg_rtp.proofs.writing.write.Goals as goal

pub returns-clause-bytes : goal.returns-clause-bytes
returns-clause-bytes c = search rules

pub returns-clause-packet : goal.returns-clause-packet
returns-clause-packet c = plain_packet _ c.args.header c.args.payload.now
    (record {
      payload_type = c.requires.seven_bits;
      sequence = search rules;
      timestamp = search rules;
      ssrc = search rules;
    }) (returns-clause-bytes c)
