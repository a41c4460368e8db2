-- Variables that are set one after the other.
use Rattle.std.proofs.Common.{◌≡◌, ◌∙◌, ℕ, List, [], ◌∷◌, ◌++◌, Option, Some, ap, refl, subst, sym}
use Rattle.std.proofs.Common.{if◌then◌else◌, None, codes}
use Rattle.std.specs.Process.{command_var}
use Rattle.std.specs.Str.{bytes_eq}
use Rattle.std.specs.declared.process.command.Command.{Command}
use Rattle.wq_follow.specs.Start.{EnvData, var, var_if, vars_of}
use Rattle.wq_launch.specs.Command.{SetsAlso, said}

-- the word on a variable after two lists of variables
said-append : (a b : List (List ℕ × List ℕ)) (name : List ℕ) (before : Option (Option (List ℕ)))
    → said (a ++ b) name before ≡ said b name (said a name before)
said-append [] b name before = refl
said-append (v ∷ a) b name before =
    said-append a b name (if bytes_eq v.0 name then Some (Some v.1) else before)

-- a command that sets two lists of variables sets them all
sets_more : {A : Type 0} (a b : List (List ℕ × List ℕ)) (c d e : Command A)
    → SetsAlso a c d → SetsAlso b d e → SetsAlso (a ++ b) c e
sets_more a b c d e first next = record {
  vars = λ name. next.vars name ∙ ap (said b name) (first.vars name)
      ∙ sym (said-append a b name (command_var c name));
  inherits = next.inherits ∙ first.inherits;
  call = (next.call.0 ∙ first.call.0, next.call.1 ∙ first.call.1);
  dir = next.dir ∙ first.dir;
}

-- a variable that is set to the same text
same : {A : Type 0} (key value text : List ℕ) (c d : Command A) → text ≡ value
    → SetsAlso (var key text ∷ []) c d → SetsAlso (var key value ∷ []) c d
same key value text c d is = subst (λ v. SetsAlso (var key v ∷ []) c d) is

-- the five variables of a start, one after the other
pub sets_all : {A : Type 0} (env : EnvData) (clock root trigger : List ℕ)
    → clock ≡ env.clock → root ≡ env.root → trigger ≡ env.trigger
    → (c c1 c2 c3 c4 c5 : Command A)
    → SetsAlso (var (codes "WATCHMAN_CLOCK") clock ∷ []) c c1
    → SetsAlso (var_if (codes "WATCHMAN_FILES_OVERFLOW")
    (if env.overflow then Some (codes "true") else None)) c1 c2
    → SetsAlso (var (codes "WATCHMAN_ROOT") root ∷ []) c2 c3
    → SetsAlso (var_if (codes "WATCHMAN_SINCE") env.since) c3 c4
    → SetsAlso (var (codes "WATCHMAN_TRIGGER") trigger ∷ []) c4 c5
    → SetsAlso (vars_of env) c c5
sets_all env clock root trigger is-clock is-root is-trigger c c1 c2 c3 c4 c5 first cuts third since
    last =
    sets_more (var (codes "WATCHMAN_CLOCK") env.clock ∷ []) (cut ++ (place ++ (before ++ name)))
    c c1 c5 (same (codes "WATCHMAN_CLOCK") env.clock clock c c1 is-clock first)
    (sets_more cut (place ++ (before ++ name)) c1 c2 c5 cuts
    (sets_more place (before ++ name) c2 c3 c5
    (same (codes "WATCHMAN_ROOT") env.root root c2 c3 is-root third)
    (sets_more before name c3 c4 c5 since
    (same (codes "WATCHMAN_TRIGGER") env.trigger trigger c4 c5 is-trigger last))))
  where
    cut : List (List ℕ × List ℕ)
    cut = var_if (codes "WATCHMAN_FILES_OVERFLOW")
        (if env.overflow then Some (codes "true") else None)

    place : List (List ℕ × List ℕ)
    place = var (codes "WATCHMAN_ROOT") env.root ∷ []

    before : List (List ℕ × List ℕ)
    before = var_if (codes "WATCHMAN_SINCE") env.since

    name : List (List ℕ × List ℕ)
    name = var (codes "WATCHMAN_TRIGGER") env.trigger ∷ []
