-- Instructions with the constants that they name, and how they are put after the code so far. This
-- server's own.
use Rattle.std.specs.Prelude.{ℕ, ℤ, List, [], ◌∷◌, ◌++◌, length}
use Rattle.wq_base.specs.declared.compare.Case.{Case}
use Rattle.wq_glob.specs.Pattern.{PatternData}
use Rattle.wq_code.specs.declared.operation.Op.{Op}
use Rattle.wq_code.specs.declared.operation.Op.TheVariants.{Number, Text, OneOf, Match}
use Rattle.wq_code.specs.declared.raw.Raw.{Raw}

-- an instruction without a constant, or one with its constant
pub data Instruction : Type 0 where
  plain : (op : Op) → Instruction
  number : (n : ℤ) → Instruction
  text : (bytes : List ℕ) → Instruction
  one_of : (case : Case) → (entries : List (List ℕ)) → Instruction
  fitting : (pattern : PatternData) → Instruction

-- a program with one more instruction at its end, whose constant is the last of its table
abbrev pub put : Instruction → Raw → Raw
put (plain op) raw = record raw { code = raw.code ++ op ∷ [] }
put (number n) raw = record raw {
  nums = raw.nums ++ n ∷ [];
  code = raw.code ++ Number (length raw.nums) ∷ [];
}
put (text bytes) raw = record raw {
  texts = raw.texts ++ bytes ∷ [];
  code = raw.code ++ Text (length raw.texts) ∷ [];
}
put (one_of case entries) raw = record raw {
  lists = raw.lists ++ entries ∷ [];
  code = raw.code ++ OneOf case (length raw.lists) ∷ [];
}
put (fitting pattern) raw = record raw {
  patterns = raw.patterns ++ pattern ∷ [];
  code = raw.code ++ Match (length raw.patterns) ∷ [];
}

-- the same of several, one after the other
abbrev pub put_all : List Instruction → Raw → Raw
put_all [] raw = raw
put_all (i ∷ is) raw = put_all is (put i raw)

-- a program without constants and instructions
abbrev pub blank : Raw
blank = record { nums = []; texts = []; lists = []; patterns = []; sets = []; code = [] }
