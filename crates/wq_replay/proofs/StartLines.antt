-- The tokens of a start, and the lines about starts.
use Rattle.std.proofs.Common.{◌≡◌, ℕ, suc, ◌+◌, ◌<◌, if◌then◌else◌, List, [], ◌∷◌, ◌++◌, length, map, drop, get_or, drop-cons, codes, Some, None, refl, sym, ap, ◌∙◌, arith}
use Rattle.std.proofs.lemmas.List.{append_assoc}
use Rattle.json.specs.Print.{print}
use Rattle.json.specs.Token.{Token, key, string as string_token}
use Rattle.json.specs.Tree.{json_tokens}
use Rattle.serde_json.proofs.Texts.{print-outline}
use Rattle.serde_json.specs.Data.{Data}
use Rattle.serde_json.specs.Written.{compact_text, outline}
use Rattle.wq_follow.specs.Start.{EnvData, var, var_if, vars_of}
use Rattle.wq_replay.specs.Launched.{all_tried, tried_data}
use Rattle.wq_replay.specs.StartLine.{tried_text, var_tokens}
use Rattle.wq_replay.specs.declared.launcher.Tried.{Tried}

-- the text of a value whose tokens were printed after a word
pub text_after : (text before word : List ℕ) (ts : List Token) (d : Data) → text ≡ before ++ print ts → before ≡ word
    → ts ≡ json_tokens (outline d) → text ≡ word ++ compact_text d
text_after text before word ts d e first all = e ∙ ap (λ l. l ++ print ts) first ∙ ap (λ l. word ++ l) (ap print all ∙ print-outline d)

-- the tokens of some variables and of others
pub tokens_then : (vars more : List (List ℕ × List ℕ)) → var_tokens (vars ++ more) ≡ var_tokens vars ++ var_tokens more
tokens_then [] more = refl
tokens_then (v ∷ vars) more = ap (λ ts. key v.0 ∷ string_token v.1 ∷ ts) (tokens_then vars more)

-- the variables of an environment, one after the other
pub all_vars : (env : EnvData) (a b c d e f : List Token)
    → b ≡ a ++ var_tokens (var (codes "WATCHMAN_CLOCK") env.clock ∷ [])
    → c ≡ b ++ var_tokens (var_if (codes "WATCHMAN_FILES_OVERFLOW") (if env.overflow then Some (codes "true") else None))
    → d ≡ c ++ var_tokens (var (codes "WATCHMAN_ROOT") env.root ∷ [])
    → e ≡ d ++ var_tokens (var_if (codes "WATCHMAN_SINCE") env.since)
    → f ≡ e ++ var_tokens (var (codes "WATCHMAN_TRIGGER") env.trigger ∷ [])
    → f ≡ a ++ var_tokens (vars_of env)
all_vars env a b c d e f clock overflow root since trigger =
    trigger ∙ ap (λ ts. ts ++ var_tokens trigger_var)
    (since ∙ ap (λ ts. ts ++ var_tokens since_vars) (root ∙ ap (λ ts. ts ++ var_tokens root_var)
    (overflow ∙ ap (λ ts. ts ++ var_tokens overflow_vars) clock)))
    ∙ append_assoc (((a ++ var_tokens clock_var) ++ var_tokens overflow_vars) ++ var_tokens root_var) (var_tokens since_vars) (var_tokens trigger_var)
    ∙ append_assoc ((a ++ var_tokens clock_var) ++ var_tokens overflow_vars) (var_tokens root_var) (var_tokens since_vars ++ var_tokens trigger_var)
    ∙ append_assoc (a ++ var_tokens clock_var) (var_tokens overflow_vars) (var_tokens root_var ++ (var_tokens since_vars ++ var_tokens trigger_var))
    ∙ append_assoc a (var_tokens clock_var) (var_tokens overflow_vars ++ (var_tokens root_var ++ (var_tokens since_vars ++ var_tokens trigger_var)))
    ∙ ap (λ ts. a ++ (var_tokens clock_var ++ ts))
    (ap (λ ts. var_tokens overflow_vars ++ (var_tokens root_var ++ ts)) (sym (tokens_then since_vars trigger_var))
    ∙ sym (tokens_then overflow_vars (var (codes "WATCHMAN_ROOT") env.root ∷ (since_vars ++ trigger_var))))
  where
    clock_var : List (List ℕ × List ℕ)
    clock_var = var (codes "WATCHMAN_CLOCK") env.clock ∷ []

    overflow_vars : List (List ℕ × List ℕ)
    overflow_vars = var_if (codes "WATCHMAN_FILES_OVERFLOW") (if env.overflow then Some (codes "true") else None)

    root_var : List (List ℕ × List ℕ)
    root_var = var (codes "WATCHMAN_ROOT") env.root ∷ []

    since_vars : List (List ℕ × List ℕ)
    since_vars = var_if (codes "WATCHMAN_SINCE") env.since

    trigger_var : List (List ℕ × List ℕ)
    trigger_var = var (codes "WATCHMAN_TRIGGER") env.trigger ∷ []

-- a line about one more start
pub lines_more : (lines after : List (List ℕ)) (line : List ℕ) (tried : List Tried) (i : ℕ) (one : Tried) (all : List (List ℕ))
    → i < length tried → one ≡ get_or tried i one → line ≡ tried_text (tried_data one) → after ≡ lines ++ line ∷ []
    → lines ++ map tried_text (all_tried (drop i tried)) ≡ all → after ++ map tried_text (all_tried (drop (i + 1) tried)) ≡ all
lines_more lines after line tried i one all within is about put so_far =
    let later : i + 1 ≡ suc i = omega arith in
    let rest = map tried_text (all_tried (drop (suc i) tried)) in
    let parts : drop i tried ≡ one ∷ drop (suc i) tried = drop-cons tried i one within ∙ ap (λ t. t ∷ drop (suc i) tried) (sym is) in
    ap (λ n. after ++ map tried_text (all_tried (drop n tried))) later
    ∙ ap (λ l. l ++ rest) put ∙ append_assoc lines (line ∷ []) rest ∙ ap (λ l. lines ++ l ∷ rest) about
    ∙ sym (ap (λ ts. lines ++ map tried_text (all_tried ts)) parts) ∙ so_far
