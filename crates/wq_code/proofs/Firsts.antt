-- Files of the first version are read as they were while there was one version.
use Rattle.std.proofs.Common.{◌≡◌, ℕ, List, [], ◌∷◌, ◌++◌, Bool, true, false, eqb, Result, Ok, Err, refl, sym, ap, ◌∙◌}
use Rattle.std.specs.Prelude.{◌≢◌, codes}
use Rattle.std.proofs.lemmas.Bool.{eqb-true}
use Rattle.wq_code.specs.Reading.{◌>>=◌, exact_at, end_at, many_at, count_at, number_at, text_at, list_at, pattern_at, op_at}
use Rattle.wq_code.specs.Word.{op_of_code}
use Rattle.wq_code.specs.File.{head_at, counts_at, tables_at, raw_at, file_at}
use Rattle.wq_code.specs.First.{FirstRaw, migrate, first_count_at, first_list_at, first_op_at, first_head, first_file_at}
use Rattle.wq_code.specs.Law.{FirstFilesStay, FirstFaultsStay, FirstFilesWere}
use Rattle.wq_code.specs.declared.fault.FileFault.{FileFault}
use Rattle.wq_code.specs.declared.fault.FileFault.TheVariants.{WrongMagic, OtherVersion}
use Rattle.wq_code.specs.declared.raw.Raw.{Raw}
use Rattle.wq_code.proofs.Forms.{bind_then, ok_is}
use Rattle.wq_code.proofs.FileForm.{exact_at-takes}

-- two readings that begin alike, the first followed by one more step and the second by two
apart : {A B C D E : Type 0} (read : Result A FileFault) (f : A → Result B FileFault) (h : B → Result E FileFault)
    (g : A → Result C FileFault) (k : C → Result D FileFault) (m : D → Result E FileFault)
    → ((x : A) → (f x >>= h) ≡ ((g x >>= k) >>= m)) → ((read >>= f) >>= h) ≡ (((read >>= g) >>= k) >>= m)
apart (Ok x) f h g k m same = same x
apart (Err fault) f h g k m same = refl

-- two readings that begin alike, each followed by one more step
both : {A B C E : Type 0} (read : Result A FileFault) (f : A → Result B FileFault) (h : B → Result E FileFault)
    (g : A → Result C FileFault) (k : C → Result E FileFault)
    → ((x : A) → (f x >>= h) ≡ (g x >>= k)) → ((read >>= f) >>= h) ≡ ((read >>= g) >>= k)
both (Ok x) f h g k same = same x
both (Err fault) f h g k same = refl

-- the end of both
ends_alike : (read : Result (List ℕ) FileFault) (raw : FirstRaw)
    → ((read >>= λ _. Ok raw) >>= λ x. Ok (migrate x)) ≡ (read >>= λ _. Ok (migrate raw))
ends_alike (Ok x) raw = refl
ends_alike (Err fault) raw = refl

abbrev migrated : Result FirstRaw FileFault → Result Raw FileFault
migrated read = read >>= λ raw. Ok (migrate raw)

-- behind the head, both readings are one
behind_head : (rest : List ℕ) → migrated (first_file_at (first_head ++ rest)) ≡ file_at (first_head ++ rest)
unfolding first_file_at file_at raw_at head_at counts_at tables_at first_count_at first_list_at first_op_at count_at list_at op_at op_of_code many_at
behind_head rest =
    apart (first_count_at rest) _ _ _ _ _ (λ a.
    apart (first_count_at a.1) _ _ _ _ _ (λ b.
    apart (first_count_at b.1) _ _ _ _ _ (λ c.
    apart (first_count_at c.1) _ _ _ _ _ (λ d.
    apart (first_count_at d.1) _ _ _ _ _ (λ e.
    both (many_at number_at a.0 e.1) _ _ _ _ (λ nums.
    both (many_at text_at b.0 nums.1) _ _ _ _ (λ texts.
    both (many_at first_list_at c.0 texts.1) _ _ _ _ (λ lists.
    both (many_at pattern_at d.0 lists.1) _ _ _ _ (λ patterns.
    both (many_at first_op_at e.0 patterns.1) _ _ _ _ (λ code.
    ends_alike (end_at code.1) (record { nums = nums.0; texts = texts.0; lists = lists.0; patterns = patterns.0; code = code.0 })))))))))))

-- a file that was read began with its head
begins : (bytes : List ℕ) (raw : FirstRaw) → first_file_at bytes ≡ Ok raw → (rest : List ℕ) × (bytes ≡ first_head ++ rest)
unfolding first_file_at
begins bytes raw e =
    bind_then (exact_at WrongMagic (codes "WQPF") bytes) _ raw e (λ a ea e.
    bind_then (exact_at OtherVersion (1 ∷ []) a) _ raw e (λ b eb e. (
      b,
      exact_at-takes WrongMagic (codes "WQPF") bytes a ea
          ∙ ap (λ (r : List ℕ). codes "WQPF" ++ r) (exact_at-takes OtherVersion (1 ∷ []) a b eb),
    )))

-- each file that was read is read
pub first_files_stay : FirstFilesStay
first_files_stay bytes raw e =
    let b = begins bytes raw e in
    let was : first_file_at (first_head ++ b.0) ≡ Ok raw = ap first_file_at (sym b.1) ∙ e in
    ap file_at b.1 ∙ sym (behind_head b.0) ∙ ap migrated was

migrated_was : (read : Result FirstRaw FileFault) (raw : Raw) → migrated read ≡ Ok raw
    → (old : FirstRaw) × (read ≡ Ok old) × (migrate old ≡ raw)
migrated_was (Ok old) raw e = (old, refl, ok_is (migrate old) raw e)
migrated_was (Err fault) raw e = absurd cc

-- what is read of a file of the first version was read
pub first_files_were : FirstFilesWere
first_files_were rest raw e = migrated_was (first_file_at (first_head ++ rest)) raw (behind_head rest ∙ e)

abbrev failed : FileFault → Result FirstRaw FileFault
failed fault = Err fault

another_version : (b : ℕ) (rest : List ℕ) (fault : FileFault) → fault ≢ OtherVersion → (same : Bool) → eqb b 1 ≡ same
    → first_file_at (codes "WQPF" ++ b ∷ rest) ≡ Err fault → file_at (codes "WQPF" ++ b ∷ rest) ≡ Err fault
unfolding first_file_at
another_version b rest fault other true is e =
    let one : b ≡ 1 = eqb-true b 1 is in
    let head : codes "WQPF" ++ b ∷ rest ≡ first_head ++ rest = ap (λ (c : ℕ). codes "WQPF" ++ c ∷ rest) one in
    let was : first_file_at (first_head ++ rest) ≡ Err fault = ap first_file_at (sym head) ∙ e in
    ap file_at head ∙ sym (behind_head rest) ∙ ap migrated was
another_version b rest fault other false is e =
    let was : first_file_at (codes "WQPF" ++ b ∷ rest) ≡ Err OtherVersion = rw is refl in
    absurd (other (same_fault OtherVersion fault (sym was ∙ e)))
  where
    same_fault : (f g : FileFault) → failed f ≡ failed g → g ≡ f
    same_fault f g e = cc

behind_magic : (bytes : List ℕ) (fault : FileFault) → fault ≢ OtherVersion
    → first_file_at (codes "WQPF" ++ bytes) ≡ Err fault → file_at (codes "WQPF" ++ bytes) ≡ Err fault
unfolding first_file_at file_at raw_at head_at
behind_magic [] fault other e = ap migrated e
behind_magic (b ∷ bytes) fault other e = another_version b bytes fault other (eqb b 1) refl e

from_magic : (bytes : List ℕ) (fault : FileFault) → fault ≢ OtherVersion → (read : Result (List ℕ) FileFault)
    → exact_at WrongMagic (codes "WQPF") bytes ≡ read → first_file_at bytes ≡ Err fault → file_at bytes ≡ Err fault
unfolding first_file_at file_at raw_at head_at
from_magic bytes fault other (Ok after) is e =
    let whole = exact_at-takes WrongMagic (codes "WQPF") bytes after is in
    ap file_at whole ∙ behind_magic after fault other (ap first_file_at (sym whole) ∙ e)
from_magic bytes fault other (Err f) is e =
    let was : first_file_at bytes ≡ Err f = rw is refl in
    let now : file_at bytes ≡ Err f = rw is refl in
    now ∙ ap migrated (sym was ∙ e)

-- what was wrong is wrong still
pub first_faults_stay : FirstFaultsStay
first_faults_stay bytes fault other e = from_magic bytes fault other (exact_at WrongMagic (codes "WQPF") bytes) refl e
