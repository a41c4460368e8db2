-- The limits of a file, as a program keeps them.
use Rattle.std.proofs.Common.{◌≡◌, ℕ, ◌≤◌, true, List, [], ◌∷◌, length, refl, arith}
use Rattle.std.specs.Prelude.{nat_le}
use Rattle.std.specs.List.{list_all}
use Rattle.std.proofs.lemmas.Bool.{and_parts, and_from, leb-true, le-leb}
use Rattle.wq_code.specs.Limit.{max_rows_in, max_sets_in}
use Rattle.wq_code.specs.Fits.{is_any, is_short_text, is_list, is_pattern, is_pattern_set, is_op, raw_fits_in, raw_fits}
use Rattle.wq_code.specs.declared.raw.Raw.{Raw}
use Rattle.wq_code.specs.declared.version.Version.{Version}
use Rattle.wq_code.specs.declared.version.Version.TheVariants.{First, Second}
use Rattle.wq_code.specs.declared.operation.Op.{Op}

-- each limit of a version by itself
pub record IsWithin (version : Version) (raw : Raw) : Type 0 where
  pub nums : length raw.nums ≤ max_rows_in version
  pub texts : length raw.texts ≤ max_rows_in version
  pub lists : length raw.lists ≤ max_rows_in version
  pub patterns : length raw.patterns ≤ max_rows_in version
  pub sets : length raw.sets ≤ max_sets_in version
  pub code : length raw.code ≤ max_rows_in version
  pub each_text : list_all is_short_text raw.texts ≡ true
  pub each_list : list_all (is_list version) raw.lists ≡ true
  pub each_pattern : list_all is_pattern raw.patterns ≡ true
  pub each_set : list_all is_pattern_set raw.sets ≡ true
  pub each_op : list_all (is_op version) raw.code ≡ true

-- a program that fits is within each limit
pub within : (version : Version) (raw : Raw) → raw_fits_in version raw ≡ true → IsWithin version raw
unfolding raw_fits_in
within version raw h =
    let a = and_parts _ _ h in
    let b = and_parts _ _ a.0 in
    let c = and_parts _ _ b.0 in
    let d = and_parts _ _ c.0 in
    let e = and_parts _ _ d.0 in
    let texts = and_parts _ _ e.1 in
    let lists = and_parts _ _ d.1 in
    let patterns = and_parts _ _ c.1 in
    let sets = and_parts _ _ b.1 in
    let code = and_parts _ _ a.1 in
    record {
      nums = leb-true _ _ e.0;
      texts = leb-true _ _ texts.0;
      lists = leb-true _ _ lists.0;
      patterns = leb-true _ _ patterns.0;
      sets = leb-true _ _ sets.0;
      code = leb-true _ _ code.0;
      each_text = texts.1;
      each_list = lists.1;
      each_pattern = patterns.1;
      each_set = sets.1;
      each_op = code.1;
    }

-- a program within each limit fits
pub fits-within : (version : Version) (raw : Raw) → IsWithin version raw → raw_fits_in version raw ≡ true
unfolding raw_fits_in
fits-within version raw h =
    and_from _ _ (and_from _ _ (and_from _ _ (and_from _ _ (and_from _ _ (le-leb _ _ h.nums)
    (and_from _ _ (le-leb _ _ h.texts) h.each_text)) (and_from _ _ (le-leb _ _ h.lists) h.each_list))
    (and_from _ _ (le-leb _ _ h.patterns) h.each_pattern)) (and_from _ _ (le-leb _ _ h.sets) h.each_set))
    (and_from _ _ (le-leb _ _ h.code) h.each_op)

-- a test that every row passes
pub list_all-always : {A : Type 0} (rows : List A) → list_all is_any rows ≡ true
list_all-always [] = refl
list_all-always (row ∷ rows) = list_all-always rows

wider_lists : (lists : List (List (List ℕ))) → list_all (is_list First) lists ≡ true → list_all (is_list Second) lists ≡ true
wider_lists [] h = refl
wider_lists (entries ∷ lists) h =
    let p = and_parts (is_list First entries) (list_all (is_list First) lists) h in
    let q = and_parts (nat_le (length entries) 65535) (list_all is_short_text entries) p.0 in
    let few = leb-true (length entries) 65535 q.0 in
    and_from (is_list Second entries) (list_all (is_list Second) lists)
    (and_from (nat_le (length entries) 65536) (list_all is_short_text entries) (le-leb _ _ (omega (arith, few))) q.1)
    (wider_lists lists p.1)

all_ops : (code : List Op) → list_all (is_op Second) code ≡ true
all_ops [] = refl
all_ops (op ∷ code) = all_ops code

-- a program that a file of some version can hold keeps to the limits
pub grows : (version : Version) (raw : Raw) → raw_fits_in version raw ≡ true → raw_fits raw ≡ true
grows First raw h =
    let w = within First raw h in
    let a = w.nums in
    let b = w.texts in
    let c = w.lists in
    let d = w.patterns in
    let s = w.sets in
    let e = w.code in
    fits-within Second raw (record {
      nums = omega (arith, a);
      texts = omega (arith, b);
      lists = omega (arith, c);
      patterns = omega (arith, d);
      sets = omega (arith, s);
      code = omega (arith, e);
      each_text = w.each_text;
      each_list = wider_lists raw.lists w.each_list;
      each_pattern = w.each_pattern;
      each_set = w.each_set;
      each_op = all_ops raw.code;
    })
grows Second raw h = h
