-- Texts and lines as lists of bytes.
use Rattle.std.specs.Prelude.{ℕ, cond, List, [], ◌∷◌, ◌++◌, length, take, drop, Ok, Err, decimal, Result, nat_lt}
use Rattle.faults.specs.declared.ShortBuffer.{ShortBuffer}

-- A text holds 256 bytes; what comes behind them is left out.
abbrev pub clipped : List ℕ → List ℕ
clipped bytes = take 256 bytes

-- The numbers of a line: the decimal digits of each, behind a space.
abbrev pub fields : List ℕ → List ℕ
fields [] = []
fields (n ∷ ns) = 32 ∷ (decimal n ++ fields ns)

-- A line: a name, numbers, and LF.
unfoldable pub line : List ℕ → List ℕ → List ℕ
line name numbers = name ++ (fields numbers ++ (10 ∷ []))

-- A buffer with a text at its front; behind the text it keeps its bytes.
abbrev pub placed : List ℕ → List ℕ → List ℕ
placed buffer text = text ++ drop (length text) buffer

-- What a copy into a buffer answers: the text's length, or that as the bytes needed where it has no room.
abbrev pub copy_answer : List ℕ → List ℕ → Result ℕ ShortBuffer
copy_answer buffer text = cond (nat_lt (length buffer) (length text)) (Err (record { needed = length text })) (Ok (length text))

-- The buffer afterwards: as it was where it has no room.
abbrev pub copy_buffer : List ℕ → List ℕ → List ℕ
copy_buffer buffer text = cond (nat_lt (length buffer) (length text)) buffer (placed buffer text)
