-- Laws about the test of a pattern and the cuts of a text. This library's own.
use Rattle.std.specs.Prelude.{ℕ, List, ◌↔◌, IsTrue}
use Rattle.wq_glob.specs.Pattern.{PatternData, fits, Fits}

-- the test of a pattern holds at a text exactly if that text can be cut for it
abbrev pub FitsWhereItCanBeCut : Type 0
FitsWhereItCanBeCut = (pattern : PatternData) (text : List ℕ)
    → IsTrue (fits pattern text) ↔ Fits pattern text
