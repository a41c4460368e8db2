-- The parts of a start.
use Rattle.std.proofs.Common.{◌≡◌, ◌≤◌, ℕ, Bool, List, ◌++◌, length, take, sym, ap, ◌∙◌}
use Rattle.wq_clock.specs.Instance.{InstanceData}
use Rattle.wq_reply.specs.Listing.{AreWithin}
use Rattle.wq_view.specs.Position.{records_at}
use Rattle.wq_record.specs.RecordData.{RecordData}
use Rattle.wq_follow.specs.Follower.{batch_at}
use Rattle.wq_follow.specs.Start.{EnvData, OrderData, StartData, appended, cuts, env_of, input_text, file_names, start_of, taken}
use Rattle.wq_follow.specs.declared.batch.Batch.{Batch}
use Rattle.wq_follow.proofs.Places.{length_at, taken_at, length_front}

pub start_from : (order : OrderData) (instance : InstanceData) (records : List RecordData) (batch : Batch)
    (places given : List ℕ) (count : ℕ) (overflow : Bool) (a : List (List ℕ)) (e : EnvData) (i : List ℕ)
    → places ≡ batch.files.items → AreWithin records places
    → file_names (records_at records (take count places)) ≡ appended order.appends (records_at records places)
    → count ≤ length places
    → a ≡ order.command ++ appended order.appends (records_at records places)
    → overflow ≡ cuts order count (length places)
    → e ≡ env_of order instance batch.from batch.now overflow
    → given ≡ taken order.limit places
    → i ≡ input_text order.input instance batch.from (records_at records given)
    → record { args = a; env = e; input = i } ≡ start_of order instance (batch_at records batch)
start_from order instance records batch places given count overflow a e i same within front fits is_args cut is_env is_given is_input =
    let files = records_at records places in
    let more = appended order.appends files in
    let counted : count ≡ length more = sym (length_front records count places within fits) ∙ ap length front in
    let cut_as : overflow ≡ cuts order (length more) (length files) =
    cut ∙ ap (λ n. cuts order n (length places)) counted ∙ ap (λ n. cuts order (length more) n) (sym (length_at records places within)) in
    let env_as : e ≡ env_of order instance batch.from batch.now (cuts order (length more) (length files)) =
    is_env ∙ ap (env_of order instance batch.from batch.now) cut_as in
    let input_as : i ≡ input_text order.input instance batch.from (taken order.limit files) =
    is_input ∙ ap (λ g. input_text order.input instance batch.from (records_at records g)) is_given
    ∙ ap (input_text order.input instance batch.from) (taken_at records order.limit places within) in
    parts a (order.command ++ more) e (env_of order instance batch.from batch.now (cuts order (length more) (length files))) i (input_text order.input instance batch.from (taken order.limit files)) is_args env_as input_as
    ∙ ap (λ f. start_of order instance (record { fresh = batch.fresh; from = batch.from; now = batch.now; files = records_at records f })) same
  where
    parts : (a b : List (List ℕ)) (e f : EnvData) (i j : List ℕ) → a ≡ b → e ≡ f → i ≡ j
        → ◌≡◌ {A = StartData} (record { args = a; env = e; input = i }) (record { args = b; env = f; input = j })
    parts a b e f i j p q r =
        ap (λ x. record { args = x; env = e; input = i }) p
        ∙ ap (λ x. record { args = b; env = x; input = i }) q
        ∙ ap (λ x. record { args = b; env = f; input = x }) r
