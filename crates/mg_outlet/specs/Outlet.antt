-- The effects of calls on an outlet.
use Rattle.std.specs.Prelude.{◌≡◌, ℕ, ◌+◌, ◌-◌, ◌^◌, min, Bool, true, false, ◌&&◌, ◌||◌, nat_lt}
use Rattle.std.specs.Prelude.{List, [], ◌++◌, length, Option, None, IfSome, if◌then◌else◌}
use Rattle.std.specs.declared.io.Error.{Error}
use Rattle.std.specs.Option.{option_map, option_map_or}
use Rattle.circular_buffer.specs.Buffer.{buffer}
use Rattle.mg_outlet.specs.Passing.{Continues, Passes, PipeCall, taken_in}
use Rattle.mg_outlet.specs.declared.outlet.Outlet.{Outlet}
use Rattle.mg_outlet.specs.declared.overflow.Overflow.{Overflow}
use Rattle.mg_outlet.specs.declared.overflow.Overflow.TheVariants.{End, Skip}

-- Whether an outlet drops all later text once a write didn't fit.
abbrev pub ends : Overflow → Bool
ends End = true
ends Skip = false

module _ {P : Type 0} where
  -- The queued bytes, oldest first.
  abbrev pub queued : Outlet P → List ℕ
  queued o = o.queue.items

  -- Whether the outlet drops all later text if a write doesn't fit in the queue, or only the text of that write.
  abbrev pub overflow : Outlet P → Overflow
  overflow o = o.overflow

  -- The number of dropped writes.
  abbrev pub dropped : Outlet P → ℕ
  dropped o = o.dropped

  -- The error of the pipe, after which nothing more is written, or `None` if the pipe has not failed.
  abbrev pub failure : Outlet P → Option Error
  failure o = o.failure

  abbrev pub pipe : Outlet P → P
  pipe o = o.pipe

  -- An outlet to which nothing has been written yet.
  abbrev pub new_outlet : P → (limit : ℕ) → Overflow → Outlet P
  new_outlet pipe limit overflow = record {
    pipe = pipe;
    queue = buffer [] limit;
    overflow = overflow;
    dropped = 0;
    failure = None;
  }

  -- Whether all further text is dropped.
  abbrev pub has_ended : Outlet P → Bool
  has_ended o = ends (overflow o) && nat_lt 0 (dropped o)

  -- Whether text is dropped while these bytes are queued: the text doesn't fit, or the outlet has ended.
  abbrev pub drops : Outlet P → (queue text : List ℕ) → Bool
  drops o queue text = nat_lt o.queue.capacity (length queue + length text) || has_ended o

  -- The maximum number of writes to the pipe in one write to the outlet: 1 if at least 4,096 bytes are queued,
  -- otherwise 0.
  abbrev pub write_limit : Outlet P → ℕ
  write_limit o = if nat_lt (length (queued o)) 4096 then 0 else 1

  module _ (calls : P → Option (List PipeCall)) where
    -- The bytes that the pipe took, if they are known, and then the queue.
    abbrev pub stream : Outlet P → Option (List ℕ)
    stream o = option_map (λ made. taken_in made ++ queued o) (calls (pipe o))

    -- The stream is a prefix of everything that was written. Until the outlet ends, nothing is missing.
    pub record BeginsWithStream (all : List ℕ) (o : Outlet P) : Type 0 where
      pub missing : List ℕ
      pub parts : IfSome (stream o) (λ passed. all ≡ passed ++ missing)
      pub whole : has_ended o ≡ false → missing ≡ []

    -- At most this many writes passed on part of the queue, and `rest` is left. An outlet that has failed passes on
    -- nothing. The outlet drops text under the same conditions as before.
    pub record PassesOn (most : ℕ) (rest : List ℕ) (old new : Outlet P) : Type 0 where
      pub made : List PipeCall
      pub called : Continues (calls (pipe old)) (calls (pipe new)) made
      pub passes : Passes (option_map_or (λ error. 0) (failure old) most) (queued old) rest made
      pub same_limit : new.queue.capacity ≡ old.queue.capacity
      pub same_overflow : overflow new ≡ overflow old

    -- At most this many writes passed on part of the queue, and the number of dropped writes did not change.
    pub record IsFlushed (most : ℕ) (old new : Outlet P) : Type 0 where
      pub passed : PassesOn most (queued new) old new
      pub count : dropped new ≡ dropped old

    -- If at least 4,096 bytes were queued, one write may have passed on some of them; `rest` is left. Then the text
    -- joined the queue, or the whole text was dropped and counted.
    pub record IsWritten (text : List ℕ) (old new : Outlet P) : Type 0 where
      pub rest : List ℕ
      pub passed : PassesOn (write_limit old) rest old new
      pub queue : queued new ≡ (if drops old rest text then rest else rest ++ text)
      pub count : dropped new ≡
          (if drops old rest text then min (dropped old + 1) (2 ^ 64 - 1) else dropped old)
