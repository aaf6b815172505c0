-- How text is escaped in a page (HTML).
use Rattle.std.specs.Prelude.{ℕ, ◌==◌, ◌||◌, nat_lt, List, [], ◌∷◌, codes, if◌then◌else◌}
use Rattle.std.specs.List.{flat_map}

-- The escaped form of a byte. U+FFFD replaces ASCII control characters.
abbrev pub escaped_byte : ℕ → List ℕ
escaped_byte b =
    if b == 38 then codes "&amp;" else (if b == 60 then codes "&lt;"
    else (if b == 62 then codes "&gt;" else (if b == 34 then codes "&quot;"
    else (if b == 39 then codes "&#39;"
    else (if nat_lt b 32 || b == 127 then codes "&#65533;" else b ∷ [])))))

abbrev pub escaped : List ℕ → List ℕ
escaped text = flat_map escaped_byte text
