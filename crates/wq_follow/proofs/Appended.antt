-- One name more that has room.
use Rattle.std.proofs.Common.{◌≡◌, ◌<◌, ℕ, suc, ◌+◌, ◌-◌, true, nat_lt, List, [], ◌∷◌, ◌++◌, length, take, drop, get_or, slice_get, Some, if◌then◌else◌, refl, sym, ap, subst, ◌∙◌, append_assoc, add-one, arith}
use Rattle.std.proofs.Math.Seq.{take-suc}
use Rattle.std.proofs.lemmas.Bool.Decides.{nat_tests}
use Rattle.std.proofs.lemmas.List.{at_drop_more}
use Rattle.std.proofs.lemmas.List.Elements.{filter_map-append}
use Rattle.wq_view.specs.Position.{records_at}
use Rattle.wq_record.specs.RecordData.{RecordData}
use Rattle.wq_follow.specs.Start.{fitting, file_names}
use Rattle.wq_follow.proofs.Places.{one_more}

names_of-append : (some others : List RecordData) → file_names (some ++ others) ≡ file_names some ++ file_names others
names_of-append [] others = refl
names_of-append (r ∷ rs) others = ap (λ names. r.name ∷ names) (names_of-append rs others)

-- the names up to a place, with the name there
front_is : (records : List RecordData) (places : List ℕ) (i d : ℕ) (r : RecordData) → i < length places
    → slice_get records (get_or places i d) ≡ Some r
    → file_names (records_at records (take (i + 1) places)) ≡ file_names (records_at records (take i places)) ++ r.name ∷ []
front_is records places i d r h found =
    ap (λ n. file_names (records_at records (take n places))) (add-one i)
    ∙ ap (λ l. file_names (records_at records l)) (take-suc places i d h)
    ∙ ap file_names (filter_map-append (slice_get records) (take i places) (get_or places i d ∷ []))
    ∙ ap (λ rs. file_names (records_at records (take i places) ++ rs)) (one_more records (get_or places i d) [] r found)
    ∙ names_of-append (records_at records (take i places)) (r ∷ [])

-- the names that fit from a place on, if the name there does
left_is : (records : List RecordData) (places : List ℕ) (i d room : ℕ) (r : RecordData) → i < length places
    → slice_get records (get_or places i d) ≡ Some r → length r.name < room
    → fitting room (file_names (records_at records (drop i places)))
    ≡ r.name ∷ fitting (room - suc (length r.name)) (file_names (records_at records (drop (i + 1) places)))
left_is records places i d room r h found has =
    at_drop_more (λ l. fitting room (file_names (records_at records l))) places i d h
    ∙ ap (λ rs. fitting room (file_names rs)) (one_more records (get_or places i d) (drop (i + 1) places) r found)
    ∙ ap (λ b. if b then r.name ∷ fitting (room - suc (length r.name)) (file_names (records_at records (drop (i + 1) places))) else []) test
  where
    test : nat_lt (length r.name) room ≡ true
    test = grind (arith, nat_tests, has)

fits_name : (records : List RecordData) (places : List ℕ) (i d room : ℕ) (r : RecordData) (all : List (List ℕ))
    → i < length places → slice_get records (get_or places i d) ≡ Some r → length r.name < room
    → file_names (records_at records (take i places)) ++ fitting room (file_names (records_at records (drop i places))) ≡ all
    → file_names (records_at records (take (i + 1) places)) ++ fitting (room - (length r.name + 1)) (file_names (records_at records (drop (i + 1) places))) ≡ all
fits_name records places i d room r all h found has so_far =
    let front = file_names (records_at records (take i places)) in
    let rest = file_names (records_at records (drop (i + 1) places)) in
    ap (λ l. l ++ fitting (room - (length r.name + 1)) rest) (front_is records places i d r h found)
    ∙ append_assoc front (r.name ∷ []) (fitting (room - (length r.name + 1)) rest)
    ∙ ap (λ n. front ++ r.name ∷ fitting (room - n) rest) (add-one (length r.name))
    ∙ ap (λ l. front ++ l) (sym (left_is records places i d room r h found has))
    ∙ so_far

pub fits_more : (records : List RecordData) (places : List ℕ) (i d room : ℕ) (r : RecordData) (bytes : List ℕ) (all : List (List ℕ))
    → i < length places → slice_get records (get_or places i d) ≡ Some r → bytes ≡ r.name → length bytes < room
    → file_names (records_at records (take i places)) ++ fitting room (file_names (records_at records (drop i places))) ≡ all
    → file_names (records_at records (take (i + 1) places)) ++ fitting (room - (length bytes + 1)) (file_names (records_at records (drop (i + 1) places))) ≡ all
fits_more records places i d room r bytes all h found same has so_far =
    subst (λ b. file_names (records_at records (take (i + 1) places)) ++ fitting (room - (length b + 1)) (file_names (records_at records (drop (i + 1) places))) ≡ all) (sym same)
    (fits_name records places i d room r all h found (subst (λ b. length b < room) same has) so_far)
