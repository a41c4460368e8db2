-- Bytes that follow change nothing of the reading before them, nor of its fault, unless the bytes were cut short.
use Rattle.std.proofs.Common.{◌≡◌, ℕ, zero, suc, Bool, true, false, cond, ltb, leb, eqb, List, [], ◌∷◌, ◌++◌, length, Result, Ok, Err, refl, arith, inl, inr}
use Rattle.std.specs.Prelude.{codes, ◌==◌, find}
use Rattle.std.proofs.lemmas.Bool.{cases_lt, lt-ltb, le-ltb}
use Rattle.std.proofs.lemmas.List.{length-append, take-append-le, drop-append-le}
use Rattle.wq_code.specs.Limit.{max_rows_in, max_constant_text, max_entries}
use Rattle.wq_code.specs.Word.{op_of_code, with_a, with_b}
use Rattle.wq_code.specs.Reading.{◌>>=◌, Reader, or_file_fault, bytes_at, byte_at, exact_at, many_at, short_at, long_at, wide_at, entries_at, count_at, number_at, text_at, list_at, flags_in, pattern_at, set_at, op_at}
use Rattle.wq_code.specs.File.{version_code, head_at, rows_at, sets_count_at, counts_at, tables_at, raw_at}
use Rattle.wq_code.specs.declared.fault.FileFault.{FileFault}
use Rattle.wq_code.specs.declared.fault.FileFault.TheVariants.{WrongMagic, OtherVersion, CutShort, BytesAfterEnd, UnknownOperation, BadOperand, OverLimit, NoMemory}
use Rattle.wq_code.specs.declared.file.Counts.{Counts}
use Rattle.wq_code.specs.declared.version.Version.{Version}
use Rattle.wq_code.specs.declared.version.Version.TheVariants.{First, Second}

-- a second reading, of more bytes, gives the result of the first, `lists_after`; nothing is claimed if the first was
-- cut short
abbrev pub Steady : {A : Type 0} → (A → A) → Result A FileFault → Result A FileFault → Type 0
Steady grow (Ok x) second = second ≡ Ok (grow x)
Steady grow (Err CutShort) second = Unit {0}
Steady grow (Err fault) second = second ≡ Err fault

-- a value with more bytes after it
abbrev pub with_more : {A : Type 0} → List ℕ → A × List ℕ → A × List ℕ
with_more more x = (x.0, x.1 ++ more)

-- a field that is read alike whatever bytes follow
abbrev pub IsSteady : {A : Type 0} → Reader A → Type 0
IsSteady field = (bytes more : List ℕ) → Steady (with_more more) (field bytes) (field (bytes ++ more))

-- one reading after the other
pub steady_then : {A B : Type 0} (grow : A → A) (grow_next : B → B) (first second : Result A FileFault)
    (next next_second : A → Result B FileFault) → Steady grow first second
    → ((x : A) → Steady grow_next (next x) (next_second (grow x)))
    → Steady grow_next (first >>= next) (second >>= next_second)
steady_then grow grow_next (Ok x) second next next_second h later = rw h (later x)
steady_then grow grow_next (Err CutShort) second next next_second h later = tt
steady_then grow grow_next (Err WrongMagic) second next next_second h later = rw h refl
steady_then grow grow_next (Err OtherVersion) second next next_second h later = rw h refl
steady_then grow grow_next (Err BytesAfterEnd) second next next_second h later = rw h refl
steady_then grow grow_next (Err UnknownOperation) second next next_second h later = rw h refl
steady_then grow grow_next (Err BadOperand) second next next_second h later = rw h refl
steady_then grow grow_next (Err OverLimit) second next next_second h later = rw h refl
steady_then grow grow_next (Err NoMemory) second next next_second h later = rw h refl

-- a fault that stays
steady_fault : {A : Type 0} (grow : A → A) (fault : FileFault) → Steady grow (Err fault) (Err fault)
steady_fault grow CutShort = tt
steady_fault grow WrongMagic = refl
steady_fault grow OtherVersion = refl
steady_fault grow BytesAfterEnd = refl
steady_fault grow UnknownOperation = refl
steady_fault grow BadOperand = refl
steady_fault grow OverLimit = refl
steady_fault grow NoMemory = refl

-- a reader that reads no bytes
pub steady_same : {A : Type 0} (read : Result A FileFault) → Steady (λ x. x) read read
steady_same (Ok x) = refl
steady_same (Err fault) = steady_fault (λ x. x) fault

pub bytes_steady : (n : ℕ) → IsSteady (bytes_at n)
unfolding bytes_at
bytes_steady n bytes more =
    elim (cases_lt (length bytes) n) [
      | inl short ↦ rw (lt-ltb _ _ short) tt
      | inr long ↦ rw (
        le-ltb _ _ long,
        le-ltb (length (bytes ++ more)) n (omega (arith, length-append bytes more)),
        take-append-le n bytes more long,
        drop-append-le n bytes more long,
      ) refl
    ]

pub byte_steady : IsSteady byte_at
byte_steady [] more = tt
byte_steady (b ∷ bytes) more = refl

same_byte : (fault : FileFault) (more : List ℕ) (same : Bool) (first second : Result (List ℕ) FileFault)
    → Steady (λ rest. rest ++ more) first second
    → Steady (λ rest. rest ++ more) (cond same first (Err fault)) (cond same second (Err fault))
same_byte fault more true first second h = h
same_byte fault more false first second h = steady_fault (λ rest. rest ++ more) fault

pub exact_steady : (fault : FileFault) (xs bytes more : List ℕ)
    → Steady (λ rest. rest ++ more) (exact_at fault xs bytes) (exact_at fault xs (bytes ++ more))
exact_steady fault [] bytes more = refl
exact_steady fault (x ∷ xs) [] more = tt
exact_steady fault (x ∷ xs) (b ∷ bytes) more =
    same_byte fault more (eqb b x) (exact_at fault xs bytes) (exact_at fault xs (bytes ++ more)) (exact_steady fault xs bytes more)

pub many_steady : {A : Type 0} (field : Reader A) → IsSteady field → (n : ℕ) → IsSteady (many_at field n)
unfolding many_at
many_steady field h zero bytes more = refl
many_steady field h (suc n) bytes more =
    steady_then (with_more more) (with_more more) (field bytes) _ _ _ (h bytes more) (λ first.
    steady_then (with_more more) (with_more more) (many_at field n first.1) _ _ _ (many_steady field h n first.1 more) (λ others. refl))

pub short_steady : IsSteady short_at
unfolding short_at
short_steady bytes more = steady_then (with_more more) (with_more more) (bytes_at 2 bytes) _ _ _ (bytes_steady 2 bytes more) (λ x. refl)

count_tested : (more : List ℕ) (x : ℕ × List ℕ) (few : Bool)
    → Steady (with_more more) (cond few (Ok x) (Err OverLimit)) (cond few (Ok (with_more more x)) (Err OverLimit))
count_tested more x true = refl
count_tested more x false = refl

pub long_steady : IsSteady long_at
unfolding long_at
long_steady bytes more = steady_then (with_more more) (with_more more) (bytes_at 4 bytes) _ _ _ (bytes_steady 4 bytes more) (λ x. refl)

pub wide_steady : (version : Version) → IsSteady (wide_at version)
wide_steady First = short_steady
wide_steady Second = long_steady

pub count_steady : (number : Reader ℕ) → IsSteady number → (limit : ℕ) → IsSteady (count_at number limit)
unfolding count_at
count_steady number h limit bytes more =
    steady_then (with_more more) (with_more more) (number bytes) _ _ _ (h bytes more) (λ x. count_tested more x (leb x.0 limit))

pub entries_steady : (version : Version) → IsSteady (entries_at version)
entries_steady First = short_steady
entries_steady Second = count_steady long_at long_steady max_entries

pub number_steady : IsSteady number_at
unfolding number_at
number_steady bytes more = steady_then (with_more more) (with_more more) (bytes_at 8 bytes) _ _ _ (bytes_steady 8 bytes more) (λ x. refl)

pub text_steady : IsSteady text_at
unfolding text_at
text_steady bytes more =
    steady_then (with_more more) (with_more more) (count_at short_at max_constant_text bytes) _ _ _ (count_steady short_at short_steady max_constant_text bytes more)
    (λ x. bytes_steady x.0 x.1 more)

pub list_steady : (version : Version) → IsSteady (list_at version)
unfolding list_at
list_steady version bytes more =
    steady_then (with_more more) (with_more more) (entries_at version bytes) _ _ _ (entries_steady version bytes more)
    (λ x. many_steady text_at text_steady x.0 x.1 more)

pub pattern_steady : IsSteady pattern_at
unfolding pattern_at
pattern_steady bytes more =
    steady_then (with_more more) (with_more more) (byte_at bytes) _ _ _ (byte_steady bytes more) (λ bits.
    steady_then (λ flags. flags) (with_more more) (cond (ltb bits.0 16) (Ok (flags_in bits.0)) (Err BadOperand)) _ _ _
    (steady_same (cond (ltb bits.0 16) (Ok (flags_in bits.0)) (Err BadOperand))) (λ flags.
    steady_then (with_more more) (with_more more) (byte_at bits.1) _ _ _ (byte_steady bits.1 more) (λ n.
    steady_then (with_more more) (with_more more) (bytes_at n.0 n.1) _ _ _ (bytes_steady n.0 n.1 more) (λ text. refl))))

pub set_steady : IsSteady set_at
unfolding set_at
set_steady bytes more =
    steady_then (with_more more) (with_more more) (count_at long_at max_entries bytes) _ _ _
    (count_steady long_at long_steady max_entries bytes more)
    (λ x. many_steady pattern_at pattern_steady x.0 x.1 more)

pub op_steady : (version : Version) → IsSteady (op_at version)
unfolding op_at
op_steady version bytes more =
    steady_then (with_more more) (with_more more) (byte_at bytes) _ _ _ (byte_steady bytes more) (λ code.
    steady_then (λ op. op) (with_more more) (or_file_fault (op_of_code version code.0) UnknownOperation) _ _ _
    (steady_same (or_file_fault (op_of_code version code.0) UnknownOperation)) (λ blank.
    steady_then (with_more more) (with_more more) (byte_at code.1) _ _ _ (byte_steady code.1 more) (λ a.
    steady_then (λ op. op) (with_more more) (or_file_fault (with_a blank a.0) BadOperand) _ _ _
    (steady_same (or_file_fault (with_a blank a.0) BadOperand)) (λ half.
    steady_then (with_more more) (with_more more) (wide_at version a.1) _ _ _ (wide_steady version a.1 more) (λ b.
    steady_then (λ op. op) (with_more more) (or_file_fault (with_b half b.0) BadOperand) _ _ _
    (steady_same (or_file_fault (with_b half b.0) BadOperand)) (λ op. refl))))))

head_steady : IsSteady head_at
unfolding head_at
head_steady bytes more =
    steady_then (λ rest. rest ++ more) (with_more more) (exact_at WrongMagic (codes "WQPF") bytes) _ _ _
    (exact_steady WrongMagic (codes "WQPF") bytes more) (λ rest.
    steady_then (with_more more) (with_more more) (byte_at rest) _ _ _ (byte_steady rest more) (λ code.
    steady_then (λ v. v) (with_more more) (or_file_fault (find (λ v. version_code v == code.0) (First ∷ Second ∷ [])) OtherVersion) _ _ _
    (steady_same (or_file_fault (find (λ v. version_code v == code.0) (First ∷ Second ∷ [])) OtherVersion)) (λ v. refl)))

pub rows_steady : (version : Version) → IsSteady (rows_at version)
rows_steady version = count_steady (wide_at version) (wide_steady version) (max_rows_in version)

pub sets_steady : (version : Version) → IsSteady (sets_count_at version)
sets_steady First bytes more = refl
sets_steady Second bytes more = rows_steady Second bytes more

pub counts_steady : (version : Version) → IsSteady (counts_at version)
unfolding counts_at
counts_steady v bytes more =
    steady_then (with_more more) (with_more more) (rows_at v bytes) _ _ _ (rows_steady v bytes more) (λ a.
    steady_then (with_more more) (with_more more) (rows_at v a.1) _ _ _ (rows_steady v a.1 more) (λ b.
    steady_then (with_more more) (with_more more) (rows_at v b.1) _ _ _ (rows_steady v b.1 more) (λ c.
    steady_then (with_more more) (with_more more) (rows_at v c.1) _ _ _ (rows_steady v c.1 more) (λ d.
    steady_then (with_more more) (with_more more) (sets_count_at v d.1) _ _ _ (sets_steady v d.1 more) (λ s.
    steady_then (with_more more) (with_more more) (rows_at v s.1) _ _ _ (rows_steady v s.1 more) (λ e. refl))))))

pub tables_steady : (version : Version) (counts : Counts) → IsSteady (tables_at version counts)
unfolding tables_at
tables_steady v counts bytes more =
    steady_then (with_more more) (with_more more) (many_at number_at counts.nums bytes) _ _ _
    (many_steady number_at number_steady counts.nums bytes more) (λ a.
    steady_then (with_more more) (with_more more) (many_at text_at counts.texts a.1) _ _ _
    (many_steady text_at text_steady counts.texts a.1 more) (λ b.
    steady_then (with_more more) (with_more more) (many_at (list_at v) counts.lists b.1) _ _ _
    (many_steady (list_at v) (list_steady v) counts.lists b.1 more) (λ c.
    steady_then (with_more more) (with_more more) (many_at pattern_at counts.patterns c.1) _ _ _
    (many_steady pattern_at pattern_steady counts.patterns c.1 more) (λ d.
    steady_then (with_more more) (with_more more) (many_at set_at counts.sets d.1) _ _ _
    (many_steady set_at set_steady counts.sets d.1 more) (λ s.
    steady_then (with_more more) (with_more more) (many_at (op_at v) counts.code s.1) _ _ _
    (many_steady (op_at v) (op_steady v) counts.code s.1 more) (λ e. refl))))))

-- a program is read alike whatever bytes follow
pub raw_steady : IsSteady raw_at
unfolding raw_at
raw_steady bytes more =
    steady_then (with_more more) (with_more more) (head_at bytes) _ _ _ (head_steady bytes more) (λ head.
    steady_then (with_more more) (with_more more) (counts_at head.0 head.1) _ _ _ (counts_steady head.0 head.1 more)
    (λ counts. tables_steady head.0 counts.0 counts.1 more))
