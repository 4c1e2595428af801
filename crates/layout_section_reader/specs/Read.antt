-- What a reader finds at a position of a slice, and where it goes on.
use Rattle.std.specs.Prelude.{cond, List, [], ◌∷◌, ℕ, zero, suc, ◌+◌, ◌≤◌, ◌<◌, ltb, length, get_or}
use Rattle.spec_protocol.specs.Layout.{part}
use Rattle.layout_section_reader.specs.declared.SectionReader.{SectionReader}
use Rattle.layout_section_reader.specs.declared.Read.{Read}
use Rattle.layout_section_reader.specs.declared.Read.TheVariants.{Section, Short, End}

-- "each after its count": the section whose count stands at a position, by the place of its first word and its count
unfoldable pub read_at : List ℕ → ℕ → Read
read_at words position =
    cond (ltb position (length words))
    (cond (ltb (position + get_or words position 0) (length words)) (Section (position + 1) (get_or words position 0)) Short)
    End

-- the position behind what was read at a position
abbrev pub behind_of : ℕ → Read → ℕ
behind_of position (Section place count) = place + count
behind_of position Short = position
behind_of position End = position

-- the position behind the section at a position
abbrev pub behind_at : List ℕ → ℕ → ℕ
behind_at words position = behind_of position (read_at words position)

-- the words of what was read
abbrev pub words_of : List ℕ → Read → List ℕ
words_of words (Section place count) = part words place count
words_of words Short = []
words_of words End = []

-- the position behind m sections
unfoldable pub behind_all : ℕ → List ℕ → ℕ → ℕ
behind_all zero words position = position
behind_all (suc m) words position = behind_all m words (behind_at words position)

-- the words of m sections, read one after the other
unfoldable pub read_all : ℕ → List ℕ → ℕ → List (List ℕ)
read_all zero words position = []
read_all (suc m) words position = words_of words (read_at words position) ∷ read_all m words (behind_at words position)

-- a section that is read stands behind the position and within the slice's length
abbrev pub Inside : (position len : ℕ) → Read → Type 0
Inside position len (Section place count) = (position < place) × (place + count ≤ len)
Inside position len Short = Unit {0}
Inside position len End = Unit {0}

-- what a reader reads, and the position behind it
abbrev pub read_by : SectionReader → Read
read_by r = read_at r.words.now r.position

abbrev pub behind_by : SectionReader → ℕ
behind_by r = behind_at r.words.now r.position
