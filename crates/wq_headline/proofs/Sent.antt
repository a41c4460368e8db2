-- Lines that were sent, among others: those of lists and of starts.
use Rattle.std.proofs.Common.{◌≡◌, List, [], ◌∷◌, ◌++◌, map, inl, inr, refl, ap, sym, subst, append-nil}
use Rattle.wq_replay.specs.World.{SentData}
use Rattle.wq_headline.specs.Followers.{WereSent}

-- lines that were sent one after the other
lines_both : (xs ys a b : List SentData) → WereSent xs a → WereSent ys b → WereSent (xs ++ ys) (a ++ b)
lines_both [] ys [] b first later = later
lines_both [] [] (line ∷ a) b first later = tt
lines_both [] (y ∷ ys) (line ∷ a) b first later = inr (lines_both [] (y ∷ ys) a b tt later)
lines_both (x ∷ xs) ys [] b first later = absurd first
lines_both (x ∷ xs) ys (line ∷ a) b (inl (same, first)) later = inl (same, lines_both xs ys a b first later)
lines_both (x ∷ xs) ys (line ∷ a) b (inr first) later = inr (lines_both (x ∷ xs) ys a b first later)

lines_all : (xs : List SentData) → WereSent xs xs
lines_all [] = tt
lines_all (x ∷ xs) = inl (refl, lines_all xs)

-- the lines of things, one after the other
mapped_both : {A : Type 0} (line_of : A → SentData) (xs ys : List A) → map line_of (xs ++ ys) ≡ map line_of xs ++ map line_of ys
mapped_both line_of [] ys = refl
mapped_both line_of (x ∷ xs) ys = ap (λ lines. line_of x ∷ lines) (mapped_both line_of xs ys)

module _ {A : Type 0} (line_of : A → SentData) where
  -- the lines of these things were sent
  abbrev pub Sent : List A → List SentData → Type 0
  Sent xs sent = WereSent (map line_of xs) sent

  pub sent_both : (xs ys : List A) (a b : List SentData) → Sent xs a → Sent ys b → Sent (xs ++ ys) (a ++ b)
  sent_both xs ys a b first later =
      subst (λ l. WereSent l (a ++ b)) (sym (mapped_both line_of xs ys)) (lines_both (map line_of xs) (map line_of ys) a b first later)

  pub sent_before : (xs : List A) (a b : List SentData) → Sent xs a → Sent xs (a ++ b)
  sent_before xs a b were = subst (λ l. Sent l (a ++ b)) (append-nil xs) (sent_both xs [] a b were tt)

  pub sent_after : (xs : List A) (a b : List SentData) → Sent xs b → Sent xs (a ++ b)
  sent_after xs a b were = sent_both [] xs a b tt were

  -- all that was sent of some things came in these lines
  abbrev pub SaysAll : List A → List SentData → Type 0
  SaysAll all sent = (xs : List A) → Sent xs (map line_of all) → Sent xs sent

  pub says_later : (first later : List A) (sent : List SentData) → SaysAll (first ++ later) sent → SaysAll later sent
  says_later first later sent into xs were =
      into xs (subst (Sent xs) (sym (mapped_both line_of first later)) (sent_after xs (map line_of first) (map line_of later) were))

  pub says_first : (first later : List A) (sent : List SentData) → SaysAll (first ++ later) sent → Sent first sent
  says_first first later sent into =
      into first (subst (Sent first) (sym (mapped_both line_of first later)) (sent_before first (map line_of first) (map line_of later) (lines_all (map line_of first))))
