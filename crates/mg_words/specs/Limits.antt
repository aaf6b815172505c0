-- The limits of this gateway. Other definitions use the names of these limits, not their numbers. A 2^32 or 4294967295
-- in another definition means the range of 32 bits, except in ContextId, where 4294967295 denotes *.
use Rattle.std.specs.Prelude.{ℕ}

-- The maximum number of members in a context.
abbrev pub member_limit : ℕ
member_limit = 64

-- The maximum number of contexts in a gateway (`context_limit`), and of terminations in a gateway
-- (`termination_limit`).
abbrev pub context_limit : ℕ
context_limit = 64

abbrev pub termination_limit : ℕ
termination_limit = 256

-- The minimum (`min_depth`), maximum (`max_depth`) and initial depth (`first_depth`) of a play list, in frames.
abbrev pub min_depth : ℕ
min_depth = 2

abbrev pub max_depth : ℕ
max_depth = 16

abbrev pub first_depth : ℕ
first_depth = 4

-- The maximum size of a control datagram that is read, in bytes.
abbrev pub message_limit : ℕ
message_limit = 8192

-- The maximum number of requests in a message (`request_limit`), and of commands in a message (`command_limit`).
abbrev pub request_limit : ℕ
request_limit = 4

abbrev pub command_limit : ℕ
command_limit = 64

-- The maximum length, in bytes, of a termination's name, a domain name or a device name.
abbrev pub name_limit : ℕ
name_limit = 64

-- The maximum length of a sender's name, in bytes: a domain name in angle brackets, a colon and a
-- five-digit port.
abbrev pub sender_limit : ℕ
sender_limit = 72

-- The maximum number of alternative descriptions in a descriptor Local or Remote.
abbrev pub alternative_limit : ℕ
alternative_limit = 8

-- The maximum size of a reply, in bytes.
abbrev pub reply_limit : ℕ
reply_limit = 16000

-- The maximum number of replies that are kept to answer retransmissions.
abbrev pub kept_limit : ℕ
kept_limit = 32

-- The largest number that a termination can have.
abbrev pub last_termination : ℕ
last_termination = 4294967295

-- The largest number that a context can have. The next two numbers denote $ and * (RFC 3525, section 6.1.2).
abbrev pub last_context : ℕ
last_context = 4294967293
