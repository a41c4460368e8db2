-- Instructions are read as they are written, and nothing else is.
use Rattle.std.proofs.Common.{◌≡◌, ℕ, ◌<◌, Bool, true, false, cond, eqb, List, [], ◌∷◌, ◌++◌, Option, Some, None, Ok, refl, sym, ap, subst, ◌∙◌, arith, lit<}
use Rattle.std.specs.Prelude.{◌==◌, find, option_map}
use Rattle.std.proofs.lemmas.Bool.{lt-ltb, eqb-true}
use Rattle.std.proofs.lemmas.Option.{same_Some, cond_some}
use Rattle.wq_code.specs.Limit.{room_in}
use Rattle.wq_code.specs.Fits.{is_op}
use Rattle.wq_code.specs.declared.fault.FileFault.{FileFault}
use Rattle.wq_code.specs.declared.fault.FileFault.TheVariants.{BadOperand, UnknownOperation}
use Rattle.wq_base.specs.declared.compare.Case.{Case}
use Rattle.wq_base.specs.declared.compare.Case.TheVariants.{Exact, Folded}
use Rattle.wq_base.specs.declared.compare.Relation.{Relation}
use Rattle.wq_base.specs.declared.compare.Relation.TheVariants.{Eq, Ne, Lt, Le, Gt, Ge}
use Rattle.wq_code.specs.declared.operation.Op.{Op}
use Rattle.wq_code.specs.declared.operation.Op.TheVariants.{Flag, Number, Text, Compare, Equal, Depth, OneOf, Match, AnyMatch, Jump, JumpIfNot, JumpIf}
use Rattle.wq_code.specs.Word.{code_of, a_of, b_of, ops_in, flag_code, case_code, relation_code, op_of_code, flag_of_code, case_of_code, relation_of_code, with_a, with_b}
use Rattle.wq_code.specs.Reading.{wide_at, or_file_fault, op_at}
use Rattle.wq_code.specs.Spelling.{wide, instruction, AreBytes}
use Rattle.wq_code.specs.declared.version.Version.{Version}
use Rattle.wq_code.specs.declared.version.Version.TheVariants.{First, Second}
use Rattle.wq_code.proofs.Forms.{bind_ok, ok_is, IsForm, short-form, long-form, wide-form, behind_byte}

-- the value that was found passes the test
passes_at : {A : Type 0} (test : A → Bool) (y : A) (others : Option A) (x : A) (b : Bool) → test y ≡ b
    → (others ≡ Some x → test x ≡ true) → cond b (Some y) others ≡ Some x → test x ≡ true
passes_at test y others x true is later e = ap test (sym (same_Some y x e)) ∙ is
passes_at test y others x false is later e = later e

pub find_passes : {A : Type 0} (test : A → Bool) (xs : List A) (x : A) → find test xs ≡ Some x → test x ≡ true
find_passes test [] x e = absurd cc
find_passes test (y ∷ xs) x e = passes_at test y (find test xs) x (test y) refl (find_passes test xs x) e

flag_of_code-code : (a : ℕ) (x : Bool) → flag_of_code a ≡ Some x → flag_code x ≡ a
flag_of_code-code a x e = eqb-true _ _ (find_passes (λ x. flag_code x == a) (false ∷ true ∷ []) x e)

case_of_code-code : (a : ℕ) (x : Case) → case_of_code a ≡ Some x → case_code x ≡ a
case_of_code-code a x e = eqb-true _ _ (find_passes (λ x. case_code x == a) (Exact ∷ Folded ∷ []) x e)

relation_of_code-code : (a : ℕ) (x : Relation) → relation_of_code a ≡ Some x → relation_code x ≡ a
relation_of_code-code a x e =
    eqb-true _ _ (find_passes (λ x. relation_code x == a) (Eq ∷ Ne ∷ Lt ∷ Le ∷ Gt ∷ Ge ∷ []) x e)

pub some_fault : {A : Type 0} (o : Option A) (fault : FileFault) (x : A) → or_file_fault o fault ≡ Ok x → o ≡ Some x
some_fault (Some y) fault x e = ap (λ z. Some z) (ok_is y x e)
some_fault None fault x e = absurd cc

-- no operand, or one that is 0
abbrev Kept : ℕ → Op → Op → Type 0
Kept operand op other = (operand ≡ 0) × (op ≡ other)

kept : (operand : ℕ) (op other : Op) → cond (eqb operand 0) (Some op) None ≡ Some other → Kept operand op other
kept operand op other e = let g = cond_some (eqb operand 0) op other e in (eqb-true operand 0 g.0, g.1)

mapped : {A : Type 0} (o : Option A) (f : A → Op) (other : Op) → option_map f o ≡ Some other → (x : A) × (o ≡ Some x) × (f x ≡ other)
mapped (Some x) f other e = (x, refl, same_Some (f x) other e)
mapped None f other e = absurd cc

-- the spelling of an instruction, after its operand `a` was read, and after `b` was
abbrev HasA : ℕ → Op → Op → Type 0
HasA a op other = (code_of other ≡ code_of op) × (a_of other ≡ a)

abbrev HasB : ℕ → Op → Op → Type 0
HasB b op other = (code_of other ≡ code_of op) × (a_of other ≡ a_of op) × (b_of other ≡ b)

with_a-has : (op : Op) (a : ℕ) (other : Op) → with_a op a ≡ Some other → HasA a op other
unfolding with_a
with_a-has (Flag old) a other e =
    let m = mapped (flag_of_code a) Flag other e in
    subst (HasA a (Flag old)) m.2 (refl, flag_of_code-code a m.0 m.1)
with_a-has (Compare old) a other e =
    let m = mapped (relation_of_code a) Compare other e in
    subst (HasA a (Compare old)) m.2 (refl, relation_of_code-code a m.0 m.1)
with_a-has (Equal old) a other e =
    let m = mapped (case_of_code a) Equal other e in
    subst (HasA a (Equal old)) m.2 (refl, case_of_code-code a m.0 m.1)
with_a-has (Depth old) a other e =
    let m = mapped (case_of_code a) Depth other e in
    subst (HasA a (Depth old)) m.2 (refl, case_of_code-code a m.0 m.1)
with_a-has (OneOf old place) a other e =
    let m = mapped (case_of_code a) (λ case. OneOf case place) other e in
    subst (HasA a (OneOf old place)) m.2 (refl, case_of_code-code a m.0 m.1)
with_a-has op a other e = let k = kept a op other e in subst (HasA a op) k.1 (refl, sym k.0)

with_b-has : (op : Op) (b : ℕ) (other : Op) → with_b op b ≡ Some other → HasB b op other
unfolding with_b
with_b-has (Number old) b other e = subst (HasB b (Number old)) (same_Some _ other e) (refl, refl, refl)
with_b-has (Text old) b other e = subst (HasB b (Text old)) (same_Some _ other e) (refl, refl, refl)
with_b-has (OneOf case old) b other e = subst (HasB b (OneOf case old)) (same_Some _ other e) (refl, refl, refl)
with_b-has (Match old) b other e = subst (HasB b (Match old)) (same_Some _ other e) (refl, refl, refl)
with_b-has (Jump old) b other e = subst (HasB b (Jump old)) (same_Some _ other e) (refl, refl, refl)
with_b-has (JumpIfNot old) b other e = subst (HasB b (JumpIfNot old)) (same_Some _ other e) (refl, refl, refl)
with_b-has (JumpIf old) b other e = subst (HasB b (JumpIf old)) (same_Some _ other e) (refl, refl, refl)
with_b-has (AnyMatch old) b other e = subst (HasB b (AnyMatch old)) (same_Some _ other e) (refl, refl, refl)
with_b-has op b other e = let k = kept b op other e in subst (HasB b op) k.1 (refl, refl, sym k.0)

-- an instruction of a version, whose operands have room
abbrev pub IsOp : Version → Op → Type 0
IsOp version op = (is_op version op ≡ true) × (b_of op < room_in version)

-- what was read as an operation of a version is one
of_version : (version : Version) (op : Op) (code : ℕ) (blank : Op) → code_of op ≡ code
    → op_of_code version code ≡ Some blank → b_of op < room_in version → is_op version op ≡ true
unfolding op_of_code
of_version Second op code blank coded found small = refl
of_version First (AnyMatch place) code blank coded found small =
    absurd (let h : op_of_code First 0x19 ≡ Some blank = subst (λ (c : ℕ). op_of_code First c ≡ Some blank) (sym coded) found in cc)
of_version First op code blank coded found small = lt-ltb _ _ small

op_takes : (version : Version) (bytes : List ℕ) (x : Op × List ℕ) → AreBytes bytes → op_at version bytes ≡ Ok x
    → (bytes ≡ instruction version x.0 ++ x.1) × IsOp version x.0
unfolding op_at op_of_code
op_takes version [] x fits e = absurd cc
op_takes version (code ∷ []) x fits e =
    let a = bind_ok (or_file_fault (op_of_code version code) UnknownOperation) _ x e in absurd (let h = a.2 in cc)
op_takes version (code ∷ a ∷ bytes) x fits e =
    let o = bind_ok (or_file_fault (op_of_code version code) UnknownOperation) _ x e in
    let p = bind_ok (or_file_fault (with_a o.0 a) BadOperand) _ x o.2 in
    let b = bind_ok (wide_at version bytes) _ x p.2 in
    let q = bind_ok (or_file_fault (with_b p.0 b.0.0) BadOperand) _ x b.2 in
    let t = (wide-form version).takes bytes b.0 (behind_byte a bytes (behind_byte code (a ∷ bytes) fits)) b.1 in
    let found = some_fault _ _ _ o.1 in
    let coded : code_of o.0 ≡ code = eqb-true _ _ (find_passes (λ op. code_of op == code) (ops_in version) o.0 found) in
    let has_a = with_a-has o.0 a p.0 (some_fault _ _ _ p.1) in
    let has_b = with_b-has p.0 b.0.0 q.0 (some_fault _ _ _ q.1) in
    let small : b_of q.0 < room_in version = omega (arith, has_b.2, t.1) in
    let whole : (code ∷ a ∷ bytes) ≡ code_of q.0 ∷ a_of q.0 ∷ wide version (b_of q.0) ++ b.0.1 =
    rw (has_b.0, has_a.0, coded, has_b.1, has_a.1, has_b.2) (ap (λ (r : List ℕ). code ∷ a ∷ r) t.0) in
    subst (λ (y : Op × List ℕ). ((code ∷ a ∷ bytes) ≡ instruction version y.0 ++ y.1) × IsOp version y.0) (ok_is _ x q.2)
    (whole, (of_version version q.0 code o.0 (has_b.0 ∙ has_a.0 ∙ coded) found small, small))

-- the operation of an instruction's byte, and then its operands
abbrev Again : Version → Op → List ℕ → Type 0
Again version op rest = op_at version (instruction version op ++ rest) ≡ Ok (op, rest)

op_again : (version : Version) (op : Op) (rest : List ℕ) → IsOp version op → Again version op rest
unfolding op_at op_of_code with_a with_b
op_again First (Flag true) rest h = rw (short-form.again 0 rest (lit< tt)) refl
op_again First (Flag false) rest h = rw (short-form.again 0 rest (lit< tt)) refl
op_again First (Compare Eq) rest h = rw (short-form.again 0 rest (lit< tt)) refl
op_again First (Compare Ne) rest h = rw (short-form.again 0 rest (lit< tt)) refl
op_again First (Compare Lt) rest h = rw (short-form.again 0 rest (lit< tt)) refl
op_again First (Compare Le) rest h = rw (short-form.again 0 rest (lit< tt)) refl
op_again First (Compare Gt) rest h = rw (short-form.again 0 rest (lit< tt)) refl
op_again First (Compare Ge) rest h = rw (short-form.again 0 rest (lit< tt)) refl
op_again First (Equal Exact) rest h = rw (short-form.again 0 rest (lit< tt)) refl
op_again First (Equal Folded) rest h = rw (short-form.again 0 rest (lit< tt)) refl
op_again First (Depth Exact) rest h = rw (short-form.again 0 rest (lit< tt)) refl
op_again First (Depth Folded) rest h = rw (short-form.again 0 rest (lit< tt)) refl
op_again First (OneOf Exact place) rest h = rw (short-form.again place rest h.1) refl
op_again First (OneOf Folded place) rest h = rw (short-form.again place rest h.1) refl
op_again First (AnyMatch place) rest h = absurd (let e = h.0 in cc)
op_again First op rest h = rw (short-form.again (b_of op) rest h.1) refl
op_again Second (Flag true) rest h = rw (long-form.again 0 rest (lit< tt)) refl
op_again Second (Flag false) rest h = rw (long-form.again 0 rest (lit< tt)) refl
op_again Second (Compare Eq) rest h = rw (long-form.again 0 rest (lit< tt)) refl
op_again Second (Compare Ne) rest h = rw (long-form.again 0 rest (lit< tt)) refl
op_again Second (Compare Lt) rest h = rw (long-form.again 0 rest (lit< tt)) refl
op_again Second (Compare Le) rest h = rw (long-form.again 0 rest (lit< tt)) refl
op_again Second (Compare Gt) rest h = rw (long-form.again 0 rest (lit< tt)) refl
op_again Second (Compare Ge) rest h = rw (long-form.again 0 rest (lit< tt)) refl
op_again Second (Equal Exact) rest h = rw (long-form.again 0 rest (lit< tt)) refl
op_again Second (Equal Folded) rest h = rw (long-form.again 0 rest (lit< tt)) refl
op_again Second (Depth Exact) rest h = rw (long-form.again 0 rest (lit< tt)) refl
op_again Second (Depth Folded) rest h = rw (long-form.again 0 rest (lit< tt)) refl
op_again Second (OneOf Exact place) rest h = rw (long-form.again place rest h.1) refl
op_again Second (OneOf Folded place) rest h = rw (long-form.again place rest h.1) refl
op_again Second op rest h = rw (long-form.again (b_of op) rest h.1) refl

-- an instruction is read as it is written
pub op-form : (version : Version) → IsForm (op_at version) (instruction version) (IsOp version)
op-form version = record { takes = op_takes version; again = op_again version }
