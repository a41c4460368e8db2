-- Bytes that end too early: some bytes after them complete each field that was begun. The exception is a number of
-- two or four bytes that is over its limit by its first bytes alone, or has to be 0.
use Rattle.std.proofs.Common.{◌≡◌, ℕ, zero, suc, ◌+◌, ◌*◌, ◌-◌, ◌<◌, ◌≤◌, Bool, true, false, cond, ltb, leb, List, [], ◌∷◌, ◌++◌, length, drop, take, Option, Some, None, Result, Ok, Err, refl, sym, ap, subst, ◌∙◌, append_assoc, arith, lit<, inl, inr}
use Rattle.std.specs.Prelude.{◌⊎◌}
use Rattle.std.specs.Int.{w16, w32, w64, from_be_bytes, cast_signed}
use Rattle.std.proofs.lemmas.Bool.{cases_lt, lt-ltb, ltb-true, leb-true, le-leb}
use Rattle.std.proofs.lemmas.List.{append-nil, length-append, length-take, take-append-drop}
use Rattle.std.proofs.lemmas.List.Elements.{All-nil, All-cons, All-append}
use Rattle.wq_code.specs.Limit.{max_rows_in, max_constant_text, max_entries}
use Rattle.wq_code.specs.Reading.{◌>>=◌, Reader, or_file_fault, bytes_at, many_at, short_at, long_at, wide_at, entries_at, count_at, number_at, text_at, list_at, pattern_at, set_at}
use Rattle.wq_code.specs.File.{rows_at}
use Rattle.wq_code.specs.Spelling.{AreBytes}
use Rattle.wq_code.specs.declared.fault.FileFault.{FileFault}
use Rattle.wq_code.specs.declared.fault.FileFault.TheVariants.{WrongMagic, OtherVersion, CutShort, BytesAfterEnd, UnknownOperation, BadOperand, OverLimit, NoMemory}
use Rattle.wq_code.specs.declared.version.Version.{Version}
use Rattle.wq_code.specs.declared.version.Version.TheVariants.{First, Second}
use Rattle.wq_code.proofs.Forms.{bytes_at-again, rest_are_bytes}
use Rattle.wq_code.proofs.Steady.{Steady, IsSteady, with_more, bytes_steady, count_steady, many_steady, text_steady, short_steady, long_steady, entries_steady, pattern_steady}

-- some bytes after these complete a field
abbrev pub Filled : {A : Type 0} → Reader A → List ℕ → Type 0
Filled {A} field bytes =
    (more : List ℕ) × AreBytes more × (x : A) × (field (bytes ++ more) ≡ Ok (x, []))

-- so many bytes after these give the same fault of a number, whichever they are
abbrev pub Spoilt : {A : Type 0} → Reader A → List ℕ → Type 0
Spoilt field bytes =
    (left : ℕ) × (left ≤ 3) × (fault : FileFault) × ((fault ≡ OverLimit) ⊎ (fault ≡ BadOperand))
    × ((more : List ℕ) → length more ≡ left → field (bytes ++ more) ≡ Err fault)

-- the claim about an outcome of reading bytes
abbrev pub Judged : {A : Type 0} → Reader A → List ℕ → Result (A × List ℕ) FileFault → Type 0
Judged field bytes (Ok x) = AreBytes x.1
Judged field bytes (Err CutShort) = Filled field bytes ⊎ Spoilt field bytes
Judged field bytes (Err BytesAfterEnd) = ⊥
Judged field bytes (Err fault) = Unit {0}

-- a field that some bytes fill, and that finds no end too early without need
pub record Ends {A : Type 0} (field : Reader A) : Type 0 where
  pub fills : Filled field []
  pub judged : (bytes : List ℕ) → AreBytes bytes → Judged field bytes (field bytes)

-- ---- one field after the other

-- the claim about a later field is the claim about the whole
pub passed_on : {A : Type 0} (all : Reader A) (later : Reader A) (bytes rest : List ℕ)
    → ((more : List ℕ) → all (bytes ++ more) ≡ later (rest ++ more))
    → (told : Result (A × List ℕ) FileFault) → Judged later rest told → Judged all bytes told
passed_on all later bytes rest moved (Ok x) j = j
passed_on all later bytes rest moved (Err CutShort) (inl f) = inl (f.0, f.1, f.2, moved f.0 ∙ f.3)
passed_on all later bytes rest moved (Err CutShort) (inr s) =
    inr (s.0, s.1, s.2, s.3, λ more len. moved more ∙ s.4 more len)
passed_on all later bytes rest moved (Err WrongMagic) j = tt
passed_on all later bytes rest moved (Err OtherVersion) j = tt
passed_on all later bytes rest moved (Err BytesAfterEnd) j = j
passed_on all later bytes rest moved (Err UnknownOperation) j = tt
passed_on all later bytes rest moved (Err BadOperand) j = tt
passed_on all later bytes rest moved (Err OverLimit) j = tt
passed_on all later bytes rest moved (Err NoMemory) j = tt

-- a field and the next one
abbrev pub both : {A B : Type 0} → Reader A → (A → Reader B) → Reader B
both first next bytes = first bytes >>= λ x. next x.0 x.1

-- the first field was read, and is read so with more bytes after it
read_on : {A B : Type 0} (first : Reader A) (next : A → Reader B) → IsSteady first → (bytes : List ℕ) (x : A × List ℕ)
    → first bytes ≡ Ok x → (more : List ℕ) → both first next (bytes ++ more) ≡ next x.0 (x.1 ++ more)
read_on first next steady bytes x e more =
    let again : first (bytes ++ more) ≡ Ok (x.0, x.1 ++ more) =
    subst (λ r. Steady (with_more more) r (first (bytes ++ more))) e (steady bytes more) in
    rw again refl

-- bytes that fill the first field, and then those that fill the next
filled_then : {A B : Type 0} (first : Reader A) (next : A → Reader B) → IsSteady first → ((x : A) → Ends (next x))
    → (bytes : List ℕ) → Filled first bytes → Filled (both first next) bytes
filled_then first next steady nexts bytes f =
    let g = (nexts f.2).fills in
    let joined = ap (both first next) (sym (append_assoc bytes f.0 g.0)) in
    (f.0 ++ g.0, All-append (λ b. b < 256) f.0 g.0 f.1 g.1, g.2, joined ∙ read_on first next steady (bytes ++ f.0) (f.2, []) f.3 g.0 ∙ g.3)

told_then : {A B : Type 0} (first : Reader A) (next : A → Reader B) → IsSteady first → ((x : A) → Ends (next x))
    → (bytes : List ℕ) (told : Result (A × List ℕ) FileFault) → first bytes ≡ told → Judged first bytes told
    → Judged (both first next) bytes (told >>= λ x. next x.0 x.1)
told_then first next steady nexts bytes (Ok x) e j =
    passed_on (both first next) (next x.0) bytes x.1 (read_on first next steady bytes x e) (next x.0 x.1)
    ((nexts x.0).judged x.1 j)
told_then first next steady nexts bytes (Err CutShort) e (inl f) = inl (filled_then first next steady nexts bytes f)
told_then first next steady nexts bytes (Err CutShort) e (inr s) =
    inr (s.0, s.1, s.2, s.3, λ more len. rw (s.4 more len) refl)
told_then first next steady nexts bytes (Err WrongMagic) e j = tt
told_then first next steady nexts bytes (Err OtherVersion) e j = tt
told_then first next steady nexts bytes (Err BytesAfterEnd) e j = j
told_then first next steady nexts bytes (Err UnknownOperation) e j = tt
told_then first next steady nexts bytes (Err BadOperand) e j = tt
told_then first next steady nexts bytes (Err OverLimit) e j = tt
told_then first next steady nexts bytes (Err NoMemory) e j = tt

-- two fields, one after the other
pub then_ends : {A B : Type 0} (first : Reader A) (next : A → Reader B) → IsSteady first → Ends first
    → ((x : A) → Ends (next x)) → Ends (both first next)
then_ends first next steady ends nexts = record {
  fills = filled_then first next steady nexts [] ends.fills;
  judged = λ bytes fits. told_then first next steady nexts bytes (first bytes) refl (ends.judged bytes fits);
}

-- a reader that reads no bytes
pub value_ends : {A : Type 0} (x : A) → Ends {A = A} (λ bytes. Ok (x, bytes))
value_ends x = record {
  fills = ([], All-nil (λ b. b < 256), x, refl);
  judged = λ bytes fits. fits;
}

-- ---- the fields

abbrev pub zeros : ℕ → List ℕ
zeros zero = []
zeros (suc n) = 0 ∷ zeros n

pub zeros_are_bytes : (n : ℕ) → AreBytes (zeros n)
zeros_are_bytes zero = All-nil (λ b. b < 256)
zeros_are_bytes (suc n) = All-cons (λ b. b < 256) 0 (zeros n) (lit< tt) (zeros_are_bytes n)

pub zeros_len : (n : ℕ) → length (zeros n) ≡ n
zeros_len zero = refl
zeros_len (suc n) = ap suc (zeros_len n)

-- exactly so many bytes
whole : (n : ℕ) (bytes : List ℕ) → length bytes ≡ n → bytes_at n bytes ≡ Ok (bytes, [])
whole n bytes len = ap (bytes_at n) (sym (append-nil bytes)) ∙ bytes_at-again n bytes [] len

bytes_filled : (n : ℕ) (bytes : List ℕ) → length bytes ≤ n → Filled (bytes_at n) bytes
bytes_filled n bytes few =
    let more = zeros (n - length bytes) in (
      more,
      zeros_are_bytes (n - length bytes),
      bytes ++ more,
      whole n (bytes ++ more) (omega (arith, few, length-append bytes more, zeros_len (n - length bytes))),
    )

bytes_told : (n : ℕ) (bytes : List ℕ) → AreBytes bytes → (short : Bool) → ltb (length bytes) n ≡ short
    → Judged (bytes_at n) bytes (cond short (Err CutShort) (Ok (take n bytes, drop n bytes)))
bytes_told n bytes fits true is = inl (bytes_filled n bytes (omega (arith, ltb-true (length bytes) n is)))
bytes_told n bytes fits false is = rest_are_bytes bytes (take n bytes) (drop n bytes) fits (sym (take-append-drop n bytes))

pub bytes_end : (n : ℕ) → Ends (bytes_at n)
unfolding bytes_at
bytes_end n = record {
  fills = bytes_filled n [] (omega arith);
  judged = λ bytes fits. bytes_told n bytes fits (ltb (length bytes) n) refl;
}

pub number_ends : Ends number_at
unfolding number_at
number_ends =
    then_ends (bytes_at 8) (λ digits bytes. Ok (cast_signed w64 (from_be_bytes w64 digits), bytes)) (bytes_steady 8) (bytes_end 8)
    (λ digits. value_ends _)

-- a reader that reads as another one
ends_same : {A : Type 0} (field other : Reader A) → ((bytes : List ℕ) → field bytes ≡ other bytes) → Ends field → Ends other
ends_same field other same ends = record {
  fills = (ends.fills.0, ends.fills.1, ends.fills.2, sym (same ends.fills.0) ∙ ends.fills.3);
  judged = λ bytes fits.
      subst (Judged other bytes) (same bytes)
      (passed_on other field bytes bytes (λ more. sym (same (bytes ++ more))) (field bytes) (ends.judged bytes fits));
}

-- ---- numbers of several bytes

-- a number of so many bytes, which is least if the bytes that are left of it are 0
pub record IsNumber (number : Reader ℕ) (width : ℕ) (value : List ℕ → ℕ) : Type 0 where
  pub narrow : width ≤ 4
  pub steady : IsSteady number
  pub read : (digits rest : List ℕ) → length digits ≡ width → number (digits ++ rest) ≡ Ok (value digits, rest)
  pub cut : (bytes : List ℕ) → length bytes < width → number bytes ≡ Err CutShort
  pub least : (front more : List ℕ) → length (front ++ more) ≡ width → value (front ++ zeros (length more)) ≤ value (front ++ more)
  pub none : value (zeros width) ≡ 0

two : (b c : ℕ) → from_be_bytes w16 (b ∷ c ∷ []) ≡ b * 256 + c
two b c = omega arith

short_cut : (bytes : List ℕ) → length bytes < 2 → short_at bytes ≡ Err CutShort
unfolding short_at bytes_at
short_cut bytes few = rw (lt-ltb (length bytes) 2 few) refl

short_least : (front more : List ℕ) → length (front ++ more) ≡ 2
    → from_be_bytes w16 (front ++ zeros (length more)) ≤ from_be_bytes w16 (front ++ more)
short_least [] [] len = absurd cc
short_least [] (b ∷ []) len = absurd cc
short_least [] (b ∷ c ∷ []) len = omega (arith, two b c, two 0 0)
short_least [] (b ∷ c ∷ d ∷ more) len = absurd cc
short_least (b ∷ []) [] len = absurd cc
short_least (b ∷ []) (c ∷ []) len = omega (arith, two b c, two b 0)
short_least (b ∷ []) (c ∷ d ∷ more) len = absurd cc
short_least (b ∷ c ∷ []) [] len = omega arith
short_least (b ∷ c ∷ []) (d ∷ more) len = absurd cc
short_least (b ∷ c ∷ d ∷ front) more len = absurd cc

short_is : IsNumber short_at 2 (from_be_bytes w16)
unfolding short_at
short_is = record {
  narrow = omega arith;
  steady = short_steady;
  read = λ digits rest len. rw (bytes_at-again 2 digits rest len) refl;
  cut = short_cut;
  least = short_least;
  none = refl;
}

four : (a b c d : ℕ) → from_be_bytes w32 (a ∷ b ∷ c ∷ d ∷ []) ≡ ((a * 256 + b) * 256 + c) * 256 + d
four a b c d = omega arith

long_cut : (bytes : List ℕ) → length bytes < 4 → long_at bytes ≡ Err CutShort
unfolding long_at bytes_at
long_cut bytes few = rw (lt-ltb (length bytes) 4 few) refl

long_least : (front more : List ℕ) → length (front ++ more) ≡ 4
    → from_be_bytes w32 (front ++ zeros (length more)) ≤ from_be_bytes w32 (front ++ more)
long_least [] [] len = absurd cc
long_least [] (a ∷ []) len = absurd cc
long_least [] (a ∷ b ∷ []) len = absurd cc
long_least [] (a ∷ b ∷ c ∷ []) len = absurd cc
long_least [] (a ∷ b ∷ c ∷ d ∷ []) len = omega (arith, four a b c d, four 0 0 0 0)
long_least [] (a ∷ b ∷ c ∷ d ∷ e ∷ more) len = absurd cc
long_least (a ∷ []) [] len = absurd cc
long_least (a ∷ []) (b ∷ []) len = absurd cc
long_least (a ∷ []) (b ∷ c ∷ []) len = absurd cc
long_least (a ∷ []) (b ∷ c ∷ d ∷ []) len = omega (arith, four a b c d, four a 0 0 0)
long_least (a ∷ []) (b ∷ c ∷ d ∷ e ∷ more) len = absurd cc
long_least (a ∷ b ∷ []) [] len = absurd cc
long_least (a ∷ b ∷ []) (c ∷ []) len = absurd cc
long_least (a ∷ b ∷ []) (c ∷ d ∷ []) len = omega (arith, four a b c d, four a b 0 0)
long_least (a ∷ b ∷ []) (c ∷ d ∷ e ∷ more) len = absurd cc
long_least (a ∷ b ∷ c ∷ []) [] len = absurd cc
long_least (a ∷ b ∷ c ∷ []) (d ∷ []) len = omega (arith, four a b c d, four a b c 0)
long_least (a ∷ b ∷ c ∷ []) (d ∷ e ∷ more) len = absurd cc
long_least (a ∷ b ∷ c ∷ d ∷ []) [] len = omega arith
long_least (a ∷ b ∷ c ∷ d ∷ []) (e ∷ more) len = absurd cc
long_least (a ∷ b ∷ c ∷ d ∷ e ∷ front) more len = absurd cc

long_is : IsNumber long_at 4 (from_be_bytes w32)
unfolding long_at
long_is = record {
  narrow = omega arith;
  steady = long_steady;
  read = λ digits rest len. rw (bytes_at-again 4 digits rest len) refl;
  cut = long_cut;
  least = long_least;
  none = refl;
}

abbrev pub width_in : Version → ℕ
width_in First = 2
width_in Second = 4

abbrev pub value_in : Version → List ℕ → ℕ
value_in First = from_be_bytes w16
value_in Second = from_be_bytes w32

-- a number as wide as the version's counts and operands
pub wide_is : (version : Version) → IsNumber (wide_at version) (width_in version) (value_in version)
wide_is First = short_is
wide_is Second = long_is

-- a number that a test turns into a value, or into a fault
abbrev pub tested : {A : Type 0} → Reader ℕ → (ℕ → Option A) → FileFault → Reader A
tested number test fault bytes = number bytes >>= λ x. or_file_fault (test x.0) fault >>= λ y. Ok (y, x.1)

-- the faults of numbers
abbrev pub IsTold : FileFault → Type 0
IsTold fault = (fault ≡ OverLimit) ⊎ (fault ≡ BadOperand)

-- a test that takes 0, and no number over one that it does not take
pub record IsTest {A : Type 0} (test : ℕ → Option A) : Type 0 where
  pub first : (y : A) × (test 0 ≡ Some y)
  pub over : (n m : ℕ) → n ≤ m → test n ≡ None → test m ≡ None

tested_read : {A : Type 0} (number : Reader ℕ) (width : ℕ) (value : List ℕ → ℕ) (test : ℕ → Option A) (fault : FileFault)
    → IsNumber number width value → (digits rest : List ℕ) → length digits ≡ width → (found : Option A) → test (value digits) ≡ found
    → tested number test fault (digits ++ rest) ≡ (or_file_fault found fault >>= λ y. Ok (y, rest))
tested_read number width value test fault n digits rest len found is = rw (n.read digits rest len, is) refl

tested_all : {A : Type 0} (number : Reader ℕ) (width : ℕ) (value : List ℕ → ℕ) (test : ℕ → Option A) (fault : FileFault)
    → IsNumber number width value → (digits : List ℕ) → length digits ≡ width → (found : Option A) → test (value digits) ≡ found
    → tested number test fault digits ≡ (or_file_fault found fault >>= λ y. Ok (y, []))
tested_all number width value test fault n digits len found is =
    ap (tested number test fault) (sym (append-nil digits)) ∙ tested_read number width value test fault n digits [] len found is

-- a fault of a number is no claim
told_fault : {A : Type 0} (field : Reader A) (bytes : List ℕ) (fault : FileFault) → IsTold fault → Judged field bytes (Err fault)
told_fault field bytes fault (inl is) = subst (λ (f : FileFault). Judged field bytes (Err f)) (sym is) tt
told_fault field bytes fault (inr is) = subst (λ (f : FileFault). Judged field bytes (Err f)) (sym is) tt

-- the bytes that are left of a number
left_of : (bytes : List ℕ) (width : ℕ) → length bytes < width → length (bytes ++ zeros (width - length bytes)) ≡ width
left_of bytes width few = omega (arith, few, length-append bytes (zeros (width - length bytes)), zeros_len (width - length bytes))

same_some : {A : Type 0} (x : A) (o : Option A) → o ≡ Some x → o ≡ None → ⊥
same_some x o e f = absurd (let g = sym e ∙ f in cc)

-- a number without its first byte takes all: its least value is 0
some_read : {A : Type 0} (number : Reader ℕ) (width : ℕ) (value : List ℕ → ℕ) (test : ℕ → Option A)
    → IsNumber number width value → IsTest test → (bytes : List ℕ) → length bytes < width
    → test (value (bytes ++ zeros (width - length bytes))) ≡ None → width - length bytes ≤ 3
some_read number width value test n t [] few none =
    let z : width - 0 ≡ width = omega arith in
    let least : test (value (zeros width)) ≡ None = subst (λ (k : ℕ). test (value (zeros k)) ≡ None) z none in
    absurd (same_some t.first.0 (test 0) t.first.1 (subst (λ (m : ℕ). test m ≡ None) n.none least))
some_read number width value test n t (b ∷ bytes) few none = omega (arith, n.narrow)

tested_begun : {A : Type 0} (number : Reader ℕ) (width : ℕ) (value : List ℕ → ℕ) (test : ℕ → Option A) (fault : FileFault)
    → IsNumber number width value → IsTest test → IsTold fault → (bytes : List ℕ) → length bytes < width → (found : Option A)
    → test (value (bytes ++ zeros (width - length bytes))) ≡ found
    → Filled (tested number test fault) bytes ⊎ Spoilt (tested number test fault) bytes
tested_begun number width value test fault n t told bytes few (Some y) is =
    let more = zeros (width - length bytes) in
    inl (
      more,
      zeros_are_bytes (width - length bytes),
      y,
      tested_all number width value test fault n (bytes ++ more) (left_of bytes width few) (Some y) is,
    )
tested_begun number width value test fault n t told bytes few None is =
    inr (
      width - length bytes,
      some_read number width value test n t bytes few is,
      fault,
      told,
      λ more len. tested_all number width value test fault n (bytes ++ more) (full more len) None (over more len),
    )
  where
    full : (more : List ℕ) → length more ≡ width - length bytes → length (bytes ++ more) ≡ width
    full more len = omega (arith, few, len, length-append bytes more)

    over : (more : List ℕ) → length more ≡ width - length bytes → test (value (bytes ++ more)) ≡ None
    over more len =
        let low = subst (λ (k : ℕ). value (bytes ++ zeros k) ≤ value (bytes ++ more)) len (n.least bytes more (full more len)) in
        t.over (value (bytes ++ zeros (width - length bytes))) (value (bytes ++ more)) low is

tested_cut : {A : Type 0} (number : Reader ℕ) (width : ℕ) (value : List ℕ → ℕ) (test : ℕ → Option A) (fault : FileFault)
    → IsNumber number width value → (bytes : List ℕ) → length bytes < width → tested number test fault bytes ≡ Err CutShort
tested_cut number width value test fault n bytes few = rw (n.cut bytes few) refl

tested_most : {A : Type 0} (field : Reader A) (bytes rest : List ℕ) (fault : FileFault) → IsTold fault → AreBytes rest
    → (found : Option A) → Judged field bytes (or_file_fault found fault >>= λ y. Ok (y, rest))
tested_most field bytes rest fault told fits (Some y) = fits
tested_most field bytes rest fault told fits None = told_fault field bytes fault told

tested_judged : {A : Type 0} (number : Reader ℕ) (width : ℕ) (value : List ℕ → ℕ) (test : ℕ → Option A) (fault : FileFault)
    → IsNumber number width value → IsTest test → IsTold fault → (bytes : List ℕ) → AreBytes bytes
    → Judged (tested number test fault) bytes (tested number test fault bytes)
tested_judged number width value test fault n t told bytes fits =
    elim (cases_lt (length bytes) width) [
      | inl few ↦ subst (Judged (tested number test fault) bytes) (sym (tested_cut number width value test fault n bytes few))
          (tested_begun number width value test fault n t told bytes few (test (value (bytes ++ zeros (width - length bytes)))) refl)
      | inr many ↦ let split : bytes ≡ take width bytes ++ drop width bytes = sym (take-append-drop width bytes) in
          let len : length (take width bytes) ≡ width = omega (arith, many, length-take width bytes) in
          let read = ap (tested number test fault) split
          ∙ tested_read number width value test fault n (take width bytes) (drop width bytes) len (test (value (take width bytes))) refl in
          subst (Judged (tested number test fault) bytes) (sym read)
          (tested_most (tested number test fault) bytes (drop width bytes) fault told
          (rest_are_bytes bytes (take width bytes) (drop width bytes) fits split) (test (value (take width bytes))))
    ]

-- a number with a test ends too early only if it is over what the test takes
pub tested_ends : {A : Type 0} (number : Reader ℕ) (width : ℕ) (value : List ℕ → ℕ) (test : ℕ → Option A) (fault : FileFault)
    → IsNumber number width value → IsTest test → IsTold fault → Ends (tested number test fault)
tested_ends number width value test fault n t told = record {
  fills = (
    zeros width,
    zeros_are_bytes width,
    t.first.0,
    tested_all number width value test fault n (zeros width) (zeros_len width) (Some t.first.0)
        (subst (λ (m : ℕ). test m ≡ Some t.first.0) (sym n.none) t.first.1),
  );
  judged = tested_judged number width value test fault n t told;
}

-- ---- counts

few_of : ℕ → ℕ → Option ℕ
few_of limit n = cond (leb n limit) (Some n) None

few_over : (limit n m : ℕ) → n ≤ m → (few : Bool) → leb m limit ≡ few → few_of limit n ≡ None → cond few (Some m) None ≡ None
unfolding few_of
few_over limit n m le true is e =
    let small : leb n limit ≡ true = le-leb n limit (omega (arith, le, leb-true m limit is)) in
    absurd (let f = subst (λ (b : Bool). cond b (Some n) None ≡ None) small e in cc)
few_over limit n m le false is e = refl

few_test : (limit : ℕ) → IsTest (few_of limit)
unfolding few_of
few_test limit = record {
  first = (0, rw (le-leb 0 limit (omega arith)) refl);
  over = λ n m le e. few_over limit n m le (leb m limit) refl e;
}

few_told : (x : ℕ × List ℕ) (few : Bool)
    → ◌>>=◌ {B = ℕ × List ℕ} (or_file_fault (cond few (Some x.0) None) OverLimit) (λ y. Ok (y, x.1))
    ≡ cond few (Ok (x.0, x.1)) (Err OverLimit)
few_told x true = refl
few_told x false = refl

then_same : {A B : Type 0} (read : Result A FileFault) (next other : A → Result B FileFault)
    → ((x : A) → next x ≡ other x) → (read >>= next) ≡ (read >>= other)
then_same (Ok x) next other same = same x
then_same (Err fault) next other same = refl

count_same : (number : Reader ℕ) (limit : ℕ) (bytes : List ℕ) → tested number (few_of limit) OverLimit bytes ≡ count_at number limit bytes
unfolding count_at few_of
count_same number limit bytes = then_same (number bytes) _ _ (λ x. few_told x (leb x.0 limit))

pub count_ends : (number : Reader ℕ) (width : ℕ) (value : List ℕ → ℕ) → IsNumber number width value → (limit : ℕ)
    → Ends (count_at number limit)
count_ends number width value n limit =
    ends_same (tested number (few_of limit) OverLimit) (count_at number limit) (count_same number limit)
    (tested_ends number width value (few_of limit) OverLimit n (few_test limit) (inl refl))

short_ends : Ends short_at
unfolding short_at
short_ends = then_ends (bytes_at 2) (λ digits bytes. Ok (from_be_bytes w16 digits, bytes)) (bytes_steady 2) (bytes_end 2) (λ digits. value_ends _)

long_count : (limit : ℕ) → Ends (count_at long_at limit)
long_count limit = count_ends long_at 4 (from_be_bytes w32) long_is limit

pub rows_ends : (version : Version) → Ends (rows_at version)
rows_ends version = count_ends (wide_at version) (width_in version) (value_in version) (wide_is version) (max_rows_in version)

entries_ends : (version : Version) → Ends (entries_at version)
entries_ends First = short_ends
entries_ends Second = long_count max_entries

pub text_ends : Ends text_at
unfolding text_at
text_ends =
    then_ends (count_at short_at max_constant_text) bytes_at (count_steady short_at short_steady max_constant_text)
    (count_ends short_at 2 (from_be_bytes w16) short_is max_constant_text) bytes_end

pub many_ends : {A : Type 0} (field : Reader A) → IsSteady field → Ends field → (n : ℕ) → Ends (many_at field n)
unfolding many_at
many_ends field steady ends zero = value_ends []
many_ends field steady ends (suc n) =
    then_ends field (λ first. both (many_at field n) (λ others bytes. Ok (first ∷ others, bytes))) steady ends (λ first.
    then_ends (many_at field n) (λ others bytes. Ok (first ∷ others, bytes)) (many_steady field steady n)
    (many_ends field steady ends n) (λ others. value_ends (first ∷ others)))

pub list_ends : (version : Version) → Ends (list_at version)
unfolding list_at
list_ends version =
    then_ends (entries_at version) (many_at text_at) (entries_steady version) (entries_ends version)
    (many_ends text_at text_steady text_ends)

-- a set, over the reading of its patterns
pub set_ends : Ends pattern_at → Ends set_at
unfolding set_at
set_ends patterns =
    then_ends (count_at long_at max_entries) (many_at pattern_at) (count_steady long_at long_steady max_entries)
    (long_count max_entries) (many_ends pattern_at pattern_steady patterns)
