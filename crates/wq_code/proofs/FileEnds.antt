-- A file that ends too early: some bytes after it make it a spelling, unless it ends within a number that is
-- wrong whatever follows.
use Rattle.std.proofs.Common.{◌≡◌, ℕ, ◌<◌, Bool, true, false, cond, eqb, List, [], ◌∷◌, ◌++◌, Option, Some, None, Result, Ok, Err, refl, sym, ap, subst, ◌∙◌, append_assoc, lit<, inl}
use Rattle.std.specs.Prelude.{ℤ, codes, ◌==◌, find}
use Rattle.std.proofs.lemmas.Bool.{eqb-true}
use Rattle.std.proofs.lemmas.List.Elements.{All-nil, All-cons, All-tail, All-append}
use Rattle.wq_code.specs.Reading.{◌>>=◌, Reader, or_file_fault, byte_at, exact_at, many_at, number_at, text_at, list_at, pattern_at, set_at, op_at}
use Rattle.wq_code.specs.File.{version_code, head_at, rows_at, sets_count_at, counts_at, tables_at, raw_at}
use Rattle.wq_code.specs.Spelling.{AreBytes}
use Rattle.wq_code.specs.declared.fault.FileFault.{FileFault}
use Rattle.wq_code.specs.declared.fault.FileFault.TheVariants.{WrongMagic, OtherVersion, CutShort, BytesAfterEnd, UnknownOperation, BadOperand, OverLimit, NoMemory}
use Rattle.wq_code.specs.declared.file.Counts.{Counts}
use Rattle.wq_code.specs.declared.version.Version.{Version}
use Rattle.wq_code.specs.declared.version.Version.TheVariants.{First, Second}
use Rattle.wq_code.specs.declared.operation.Op.{Op}
use Rattle.wq_glob.specs.Pattern.{PatternData}
use Rattle.wq_code.specs.declared.raw.Raw.{Raw}
use Rattle.wq_code.proofs.FileForm.{exact_at-takes}
use Rattle.wq_code.proofs.Forms.{rest_are_bytes}
use Rattle.wq_code.proofs.Steady.{Steady, IsSteady, with_more, steady_then, steady_same, byte_steady, exact_steady, rows_steady, sets_steady, counts_steady, many_steady, number_steady, text_steady, list_steady, pattern_steady, set_steady, op_steady}
use Rattle.wq_code.proofs.Ends.{Filled, Judged, Ends, passed_on, both, then_ends, value_ends, number_ends, rows_ends, text_ends, many_ends, list_ends}
use Rattle.wq_code.proofs.OpEnds.{pattern_ends, sets_end, op_ends}

abbrev counts_of : ℕ → ℕ → ℕ → ℕ → ℕ → ℕ → Counts
counts_of a b c d s e = record { nums = a; texts = b; lists = c; patterns = d; sets = s; code = e }

abbrev sixth_count : Version → ℕ → ℕ → ℕ → ℕ → ℕ → Reader Counts
sixth_count v a b c d s = both (rows_at v) (λ e bytes. Ok (counts_of a b c d s e, bytes))

abbrev fifth_count : Version → ℕ → ℕ → ℕ → ℕ → Reader Counts
fifth_count v a b c d = both (sets_count_at v) (sixth_count v a b c d)

abbrev fourth_count : Version → ℕ → ℕ → ℕ → Reader Counts
fourth_count v a b c = both (rows_at v) (fifth_count v a b c)

abbrev third_count : Version → ℕ → ℕ → Reader Counts
third_count v a b = both (rows_at v) (fourth_count v a b)

abbrev second_count : Version → ℕ → Reader Counts
second_count v a = both (rows_at v) (third_count v a)

sets_count_ends : (v : Version) → Ends (sets_count_at v)
sets_count_ends First = value_ends 0
sets_count_ends Second = rows_ends Second

counts_end : (v : Version) → Ends (counts_at v)
unfolding counts_at
counts_end v =
    let steady = rows_steady v in
    let ends = rows_ends v in
    then_ends (rows_at v) (second_count v) steady ends (λ a.
    then_ends (rows_at v) (third_count v a) steady ends (λ b.
    then_ends (rows_at v) (fourth_count v a b) steady ends (λ c.
    then_ends (rows_at v) (fifth_count v a b c) steady ends (λ d.
    then_ends (sets_count_at v) (sixth_count v a b c d) (sets_steady v) (sets_count_ends v) (λ s.
    then_ends (rows_at v) (λ e bytes. Ok (counts_of a b c d s e, bytes)) steady ends (λ e. value_ends _))))))

abbrev tables_of : List ℤ → List (List ℕ) → List (List (List ℕ)) → List PatternData → List (List PatternData) → List Op → Raw
tables_of a b c d s e = record { nums = a; texts = b; lists = c; patterns = d; sets = s; code = e }

abbrev sixth_table : Version → Counts → List ℤ → List (List ℕ) → List (List (List ℕ)) → List PatternData → List (List PatternData) → Reader Raw
sixth_table v counts a b c d s = both (many_at (op_at v) counts.code) (λ e bytes. Ok (tables_of a b c d s e, bytes))

abbrev fifth_table : Version → Counts → List ℤ → List (List ℕ) → List (List (List ℕ)) → List PatternData → Reader Raw
fifth_table v counts a b c d = both (many_at set_at counts.sets) (sixth_table v counts a b c d)

abbrev fourth_table : Version → Counts → List ℤ → List (List ℕ) → List (List (List ℕ)) → Reader Raw
fourth_table v counts a b c = both (many_at pattern_at counts.patterns) (fifth_table v counts a b c)

abbrev third_table : Version → Counts → List ℤ → List (List ℕ) → Reader Raw
third_table v counts a b = both (many_at (list_at v) counts.lists) (fourth_table v counts a b)

abbrev second_table : Version → Counts → List ℤ → Reader Raw
second_table v counts a = both (many_at text_at counts.texts) (third_table v counts a)

tables_end : (v : Version) (counts : Counts) → Ends (tables_at v counts)
unfolding tables_at
tables_end v counts =
    then_ends (many_at number_at counts.nums) (second_table v counts) (many_steady number_at number_steady counts.nums)
    (many_ends number_at number_steady number_ends counts.nums) (λ a.
    then_ends (many_at text_at counts.texts) (third_table v counts a) (many_steady text_at text_steady counts.texts)
    (many_ends text_at text_steady text_ends counts.texts) (λ b.
    then_ends (many_at (list_at v) counts.lists) (fourth_table v counts a b) (many_steady (list_at v) (list_steady v) counts.lists)
    (many_ends (list_at v) (list_steady v) (list_ends v) counts.lists) (λ c.
    then_ends (many_at pattern_at counts.patterns) (fifth_table v counts a b c) (many_steady pattern_at pattern_steady counts.patterns)
    (many_ends pattern_at pattern_steady pattern_ends counts.patterns) (λ d.
    then_ends (many_at set_at counts.sets) (sixth_table v counts a b c d) (many_steady set_at set_steady counts.sets)
    (many_ends set_at set_steady sets_end counts.sets) (λ s.
    then_ends (many_at (op_at v) counts.code) (λ e bytes. Ok (tables_of a b c d s e, bytes)) (many_steady (op_at v) (op_steady v) counts.code)
    (many_ends (op_at v) (op_steady v) (op_ends v) counts.code) (λ e. value_ends _))))))

-- the version, by its byte
version_of : ℕ → Option Version
version_of code = find (λ v. version_code v == code) (First ∷ Second ∷ [])

version_at : Reader Version
version_at bytes = byte_at bytes >>= λ code. or_file_fault (version_of code.0) OtherVersion >>= λ v. Ok (v, code.1)

version_steady : IsSteady version_at
unfolding version_at
version_steady bytes more =
    steady_then (with_more more) (with_more more) (byte_at bytes) _ _ _ (byte_steady bytes more) (λ code.
    steady_then (λ v. v) (with_more more) (or_file_fault (version_of code.0) OtherVersion) _ _ _
    (steady_same (or_file_fault (version_of code.0) OtherVersion)) (λ v. refl))

version_told : (bytes rest : List ℕ) → AreBytes rest → (found : Option Version)
    → Judged version_at bytes (or_file_fault found OtherVersion >>= λ v. Ok (v, rest))
version_told bytes rest fits (Some v) = fits
version_told bytes rest fits None = tt

version_filled : Filled version_at []
unfolding version_at version_of
version_filled = (1 ∷ [], All-cons (λ b. b < 256) 1 [] (lit< tt) (All-nil (λ b. b < 256)), First, refl)

version_judged : (bytes : List ℕ) → AreBytes bytes → Judged version_at bytes (version_at bytes)
unfolding version_at
version_judged [] fits = inl version_filled
version_judged (b ∷ bytes) fits = version_told (b ∷ bytes) bytes (All-tail (λ b. b < 256) b bytes fits) (version_of b)

version_ends : Ends version_at
version_ends = record { fills = version_filled; judged = version_judged }

-- the claim about an outcome of reading bytes that have to be exactly these
abbrev Told : List ℕ → List ℕ → Result (List ℕ) FileFault → Type 0
Told xs bytes (Err CutShort) = (more : List ℕ) × (bytes ++ more ≡ xs)
Told xs bytes (Err BytesAfterEnd) = ⊥
Told xs bytes told = Unit {0}

told_behind : (x : ℕ) (xs bytes : List ℕ) (told : Result (List ℕ) FileFault) → Told xs bytes told → Told (x ∷ xs) (x ∷ bytes) told
told_behind x xs bytes (Ok rest) t = tt
told_behind x xs bytes (Err CutShort) t = (t.0, ap (λ (r : List ℕ). x ∷ r) t.1)
told_behind x xs bytes (Err WrongMagic) t = tt
told_behind x xs bytes (Err OtherVersion) t = tt
told_behind x xs bytes (Err BytesAfterEnd) t = t
told_behind x xs bytes (Err UnknownOperation) t = tt
told_behind x xs bytes (Err BadOperand) t = tt
told_behind x xs bytes (Err OverLimit) t = tt
told_behind x xs bytes (Err NoMemory) t = tt

byte_told : (fault : FileFault) → ((ys zs : List ℕ) → Told ys zs (Err fault)) → (x b : ℕ) (xs bytes : List ℕ)
    (told : Result (List ℕ) FileFault) → Told xs bytes told → (same : Bool) → eqb b x ≡ same
    → Told (x ∷ xs) (b ∷ bytes) (cond same told (Err fault))
byte_told fault plain x b xs bytes told t true is =
    subst (λ (c : ℕ). Told (x ∷ xs) (c ∷ bytes) told) (sym (eqb-true b x is)) (told_behind x xs bytes told t)
byte_told fault plain x b xs bytes told t false is = plain (x ∷ xs) (b ∷ bytes)

exact_told : (fault : FileFault) → ((ys zs : List ℕ) → Told ys zs (Err fault)) → (xs bytes : List ℕ)
    → Told xs bytes (exact_at fault xs bytes)
exact_told fault plain [] bytes = tt
exact_told fault plain (x ∷ xs) [] = (x ∷ xs, refl)
exact_told fault plain (x ∷ xs) (b ∷ bytes) =
    byte_told fault plain x b xs bytes (exact_at fault xs bytes) (exact_told fault plain xs bytes) (eqb b x) refl

-- the part after the counts' version
tables_after : Version → Reader Raw
tables_after v = both (counts_at v) (tables_at v)

tables_after_ends : (v : Version) → Ends (tables_after v)
unfolding tables_after
tables_after_ends v = then_ends (counts_at v) (tables_at v) (counts_steady v) (counts_end v) (tables_end v)

-- the part after the magic
body_at : Reader Raw
body_at = both version_at tables_after

body_ends : Ends body_at
unfolding body_at
body_ends = then_ends version_at tables_after version_steady version_ends tables_after_ends

magic_at : List ℕ → Result (List ℕ) FileFault
magic_at bytes = exact_at WrongMagic (codes "WQPF") bytes

-- one step after two is one after the first
regrouped : {A B C : Type 0} (read : Result A FileFault) (next : A → Result B FileFault) (last : B → Result C FileFault)
    → ((read >>= next) >>= last) ≡ (read >>= λ x. next x >>= last)
regrouped (Ok x) next last = refl
regrouped (Err fault) next last = refl

raw_is : (bytes : List ℕ) → raw_at bytes ≡ (magic_at bytes >>= body_at)
unfolding raw_at head_at body_at version_at version_of tables_after magic_at
raw_is bytes = regrouped (exact_at WrongMagic (codes "WQPF") bytes) _ _

magic_is : (rest : List ℕ) → magic_at (codes "WQPF" ++ rest) ≡ Ok rest
unfolding magic_at
magic_is rest = refl

magic_are_bytes : AreBytes (codes "WQPF")
magic_are_bytes =
    All-cons (λ b. b < 256) 87 (81 ∷ 80 ∷ 70 ∷ []) (lit< tt)
    (All-cons (λ b. b < 256) 81 (80 ∷ 70 ∷ []) (lit< tt)
    (All-cons (λ b. b < 256) 80 (70 ∷ []) (lit< tt)
    (All-cons (λ b. b < 256) 70 [] (lit< tt) (All-nil (λ b. b < 256)))))

magic_steady : (bytes more : List ℕ) → Steady (λ rest. rest ++ more) (magic_at bytes) (magic_at (bytes ++ more))
unfolding magic_at
magic_steady bytes more = exact_steady WrongMagic (codes "WQPF") bytes more

magic_told : (bytes : List ℕ) → Told (codes "WQPF") bytes (magic_at bytes)
unfolding magic_at
magic_told bytes = exact_told WrongMagic (λ ys zs. tt) (codes "WQPF") bytes

magic_takes : (bytes rest : List ℕ) → magic_at bytes ≡ Ok rest → bytes ≡ codes "WQPF" ++ rest
unfolding magic_at
magic_takes bytes rest e = exact_at-takes WrongMagic (codes "WQPF") bytes rest e

raw_read : (bytes rest : List ℕ) → magic_at bytes ≡ Ok rest → (more : List ℕ) → raw_at (bytes ++ more) ≡ body_at (rest ++ more)
raw_read bytes rest e more =
    let again : magic_at (bytes ++ more) ≡ Ok (rest ++ more) =
    subst (λ r. Steady (λ rest. rest ++ more) r (magic_at (bytes ++ more))) e (magic_steady bytes more) in
    raw_is (bytes ++ more) ∙ rw again refl

raw_filled : (bytes more : List ℕ) → bytes ++ more ≡ codes "WQPF" → Filled raw_at bytes
raw_filled bytes more is =
    let f = body_ends.fills in
    let fits = rest_are_bytes (codes "WQPF") bytes more magic_are_bytes (sym is) in
    let spelled : raw_at (bytes ++ (more ++ f.0)) ≡ raw_at (codes "WQPF" ++ f.0) =
    ap raw_at (sym (append_assoc bytes more f.0) ∙ ap (λ (r : List ℕ). r ++ f.0) is) in
    (more ++ f.0, All-append (λ b. b < 256) more f.0 fits f.1, f.2, spelled ∙ raw_read (codes "WQPF") [] (magic_is []) f.0 ∙ f.3)

raw_told : (bytes : List ℕ) → AreBytes bytes → (told : Result (List ℕ) FileFault) → magic_at bytes ≡ told
    → Told (codes "WQPF") bytes told → Judged raw_at bytes (told >>= body_at)
raw_told bytes fits (Ok rest) e t =
    passed_on raw_at body_at bytes rest (raw_read bytes rest e) (body_at rest)
    (body_ends.judged rest (rest_are_bytes bytes (codes "WQPF") rest fits (magic_takes bytes rest e)))
raw_told bytes fits (Err CutShort) e t = inl (raw_filled bytes t.0 t.1)
raw_told bytes fits (Err WrongMagic) e t = tt
raw_told bytes fits (Err OtherVersion) e t = tt
raw_told bytes fits (Err BytesAfterEnd) e t = t
raw_told bytes fits (Err UnknownOperation) e t = tt
raw_told bytes fits (Err BadOperand) e t = tt
raw_told bytes fits (Err OverLimit) e t = tt
raw_told bytes fits (Err NoMemory) e t = tt

-- a program, which bytes may follow
pub raw_judged : (bytes : List ℕ) → AreBytes bytes → Judged raw_at bytes (raw_at bytes)
raw_judged bytes fits =
    subst (Judged raw_at bytes) (sym (raw_is bytes)) (raw_told bytes fits (magic_at bytes) refl (magic_told bytes))
