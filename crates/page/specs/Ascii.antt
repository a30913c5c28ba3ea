-- A text of ASCII characters as bytes.
-- Assumes nothing.
use Rattle.std.specs.Prelude.{ℕ, List, [], ◌∷◌}
use Prim.Native.Char.{code}
use Prim.Native.String.{String, [] as end_of_text, ◌∷◌ as ◌before◌}

abbrev pub ascii : String → List ℕ
ascii end_of_text = []
ascii (c before rest) = code c ∷ ascii rest
