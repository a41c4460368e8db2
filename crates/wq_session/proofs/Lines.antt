-- The line of a reply.
use Rattle.std.proofs.Common.{◌≡◌, ◌<◌, ℕ, ◌+◌, List, [], ◌∷◌, ◌++◌, length, take, drop, drop-cons, get_or, suc, codes, Option, Some, None, option_map, Result, Ok, Err, OnOk, OnErr, refl, sym, ap, subst, ◌∙◌}
use Rattle.std.proofs.Math.Seq.{take-add}
use Rattle.std.proofs.lemmas.List.{append-nil, append_assoc, take-append-drop}
use Rattle.std.specs.Io.KnownBytes.{Appends}
use Rattle.wq_base.specs.Writing.{WritesFront}
use Rattle.wq_base.proofs.Fronts.{appends_then, front_before, front_behind}
use Rattle.std.proofs.lemmas.Option.{same_Some}
use Rattle.wq_session.specs.Serving.{line_for, lines_for}

-- if there is a line, it is the reply's
pub line_is : (reply : Option (List ℕ)) (line : List ℕ) → Some line ≡ option_map (λ text. text ++ codes "\n") reply
    → line ≡ line_for reply
line_is None line is = absurd (cc is)
line_is (Some text) line is = same_Some line (text ++ codes "\n") is

-- if there is none, there is no reply
pub no_line : (reply : Option (List ℕ)) → None ≡ option_map (λ text. text ++ codes "\n") reply → [] ≡ line_for reply
no_line None is = refl
no_line (Some text) is = absurd (cc is)

-- the lines of some lists, and then of others
pub lines_both : (xs ys : List (List ℕ)) → lines_for (xs ++ ys) ≡ lines_for xs ++ lines_for ys
lines_both [] ys = refl
lines_both (x ∷ xs) ys =
    ap (λ l. (x ++ codes "\n") ++ l) (lines_both xs ys) ∙ sym (append_assoc (x ++ codes "\n") (lines_for xs) (lines_for ys))

-- a line was written after others
line_added : (a b c : Option (List ℕ)) (front : List (List ℕ)) (text : List ℕ) → Appends a b (lines_for front)
    → Appends b c (text ++ codes "\n") → Appends a c (lines_for (front ++ text ∷ []))
line_added a b c front text whole one =
    subst (Appends a c) (sym (lines_both front (text ∷ []) ∙ ap (λ l. lines_for front ++ l) (append-nil (text ++ codes "\n"))))
    (appends_then a b c (lines_for front) (text ++ codes "\n") whole one)

-- a front of a line was written after others, with more to come
front_added : (a b c : Option (List ℕ)) (front : List (List ℕ)) (text : List ℕ) (later : List (List ℕ))
    → Appends a b (lines_for front) → WritesFront b c (text ++ codes "\n") → WritesFront a c (lines_for (front ++ text ∷ later))
front_added a b c front text later whole within =
    subst (WritesFront a c) (sym (lines_both front (text ∷ later)))
    (front_behind a b c (lines_for front) (lines_for (text ∷ later)) whole (front_before b c (text ++ codes "\n") (lines_for later) within))

module _ (a b c : Option (List ℕ)) (lists : List (List ℕ)) (i : ℕ) (text : List ℕ) (within : i < length lists) (is : text ≡ get_or lists i text) where
  -- the list that comes next
  next_list : drop i lists ≡ text ∷ drop (suc i) lists
  next_list = drop-cons lists i text within ∙ ap (λ x. x ∷ drop (suc i) lists) (sym is)

  -- one more line was written
  pub line_more : Appends a b (lines_for (take i lists)) → Appends b c (text ++ codes "\n") → Appends a c (lines_for (take (i + 1) lists))
  line_more whole one =
      subst (λ l. Appends a c (lines_for l)) (sym (take-add i 1 lists ∙ ap (λ l. take i lists ++ take 1 l) next_list))
      (line_added a b c (take i lists) text whole one)

  -- a front of one more line was
  pub line_within : Appends a b (lines_for (take i lists)) → WritesFront b c (text ++ codes "\n") → WritesFront a c (lines_for lists)
  line_within whole front =
      subst (λ l. WritesFront a c (lines_for l)) (sym (ap (λ l. take i lists ++ l) next_list) ∙ take-append-drop i lists)
      (front_added a b c (take i lists) text (drop (suc i) lists) whole front)

module _ {T E : Type 0} (result : Result T E) (a b c : Option (List ℕ)) (xs ys : List ℕ) (whole : Appends a b xs) where
  -- lines that were written whole after others
  pub well_behind : OnOk result (Appends b c ys) → OnOk result (Appends a c (xs ++ ys))
  well_behind = at result
    where
      at : (r : Result T E) → OnOk r (Appends b c ys) → OnOk r (Appends a c (xs ++ ys))
      at (Ok value) written = appends_then a b c xs ys whole written
      at (Err fault) written = tt

  -- lines that were written in part after others
  pub part_after : OnErr result (WritesFront b c ys) → OnErr result (WritesFront a c (xs ++ ys))
  part_after = at result
    where
      at : (r : Result T E) → OnErr r (WritesFront b c ys) → OnErr r (WritesFront a c (xs ++ ys))
      at (Ok value) front = tt
      at (Err fault) front = front_behind a b c xs ys whole front
