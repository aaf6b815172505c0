-- The head of a message (RFC 3525, Annex B.2: MEGACOP, with its version).
use Rattle.std.specs.Prelude.{ℕ, List, Option, codes}
use Rattle.std.specs.Option.{option_and_then, option_or}
use Rattle.mg_words.specs.Numbers.{version_in_digits}
use Rattle.mg_words.specs.Cut.{after_prefix}

-- The version after a name of the protocol, ignoring case.
unfoldable pub version_after : List ℕ → List ℕ → Option ℕ
version_after name text = option_and_then version_in_digits (after_prefix name text)

-- The version after MEGACO/ or after the short form !/ of that name.
unfoldable pub version_in_head : List ℕ → Option ℕ
version_in_head text =
    option_or (version_after (codes "MEGACO/") text) (version_after (codes "!/") text)
