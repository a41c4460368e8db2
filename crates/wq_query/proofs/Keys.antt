-- The query that is asked, from the values of its keys.
use Rattle.std.proofs.Common.{◌≡◌, ℕ, true, false, ◌==◌, List, [], ◌∷◌, length, codes}
use Rattle.std.proofs.Common.{Option, Some, None, Result, Ok, Err, Vec, refl, sym, ap, subst}
use mathlib.Core.Bool.{false≢true}
use Rattle.std.specs.declared.alloc.Global.{Global}
use Rattle.serde_json.specs.Data.{Data, null, boolean, number, string, array, object, Items}
use Rattle.serde_json.specs.Find.{get, as_array}
use Rattle.std.proofs.lemmas.Option.{same_Some}
use Rattle.serde_json.specs.View.{items_view}
use Rattle.serde_json.specs.declared.value.Value.{Value}
use Rattle.wq_clock.specs.Instance.{InstanceData}
use Rattle.wq_term.specs.declared.generators.PathGen.{PathGen}
use Rattle.wq_glob.specs.Pattern.{PatternData}
use Rattle.wq_term.specs.Expr.{ExprData, always}
use Rattle.wq_term.specs.Fits.{expr_fits}
use Rattle.wq_query.specs.declared.fault.QueryFault.{QueryFault}
use Rattle.wq_query.specs.declared.fault.QueryFault.TheVariants.{LeftOutKey, ExpressionAndProgram}
use Rattle.wq_query.specs.declared.fault.QueryFault.TheVariants.{Expression, UnknownField}
use Rattle.wq_query.specs.declared.fault.QueryFault.TheVariants.{BadGenerator, PatternTooLong, BadClockSpec}
use Rattle.wq_query.specs.declared.fault.QueryFault.TheVariants.{WrongValue, NoMemory}
use Rattle.wq_query.specs.Query.{SinceData}
use Rattle.wq_query.specs.declared.field.Field.{Field}
use Rattle.wq_query.specs.declared.options.Options.{Options}
use Rattle.wq_query.specs.Generator.{suffixes_of, paths_of}
use Rattle.wq_query.specs.Glob.{glob_flags, globs_of}
use Rattle.wq_query.specs.Outcome.{GivesQuery, GivesFields, GivesGlobs, GivesProgram, GivesSince}
use Rattle.wq_query.specs.Reading.{asks, has_both, has_left_out_key, expression_of, fields_in}
use Rattle.wq_query.specs.Reading.{fields_of, since_of, program_name, options_of}

-- the expression of a query that has none keeps the limits
pub always_fits : expr_fits always ≡ true
unfolding expr_fits
always_fits = refl

module _ (instance : InstanceData) (d : Data) (t : ExprData) (fields : List Field) (suffix : Option (List (List ℕ)))
    (path : Option (List PathGen)) (none : has_left_out_key d ≡ false) (one : has_both d ≡ false)
    (expression : expression_of instance (get (codes "expression") d) ≡ Ok t)
    (named : fields_of (get (codes "fields") d) ≡ Some fields)
    (ends : suffixes_of (get (codes "suffix") d) ≡ Some suffix)
    (at : paths_of (get (codes "path") d) ≡ Some path) where
  -- a query whose patterns are refused
  pub asks_unfitting : (fault : QueryFault)
      → GivesGlobs (Err fault) (globs_of (glob_flags (get (codes "glob_includedotfiles") d)) (get (codes "glob") d))
      → GivesQuery (Err fault) (asks instance d)
  asks_unfitting NoMemory is = tt
  asks_unfitting BadGenerator is = rw (none, one, expression, named, ends, at, is) refl
  asks_unfitting PatternTooLong is = rw (none, one, expression, named, ends, at, is) refl
  asks_unfitting LeftOutKey is = rw (none, one, expression, named, ends, at, is) refl
  asks_unfitting ExpressionAndProgram is = rw (none, one, expression, named, ends, at, is) refl
  asks_unfitting (Expression fault) is = rw (none, one, expression, named, ends, at, is) refl
  asks_unfitting UnknownField is = rw (none, one, expression, named, ends, at, is) refl
  asks_unfitting BadClockSpec is = rw (none, one, expression, named, ends, at, is) refl
  asks_unfitting WrongValue is = rw (none, one, expression, named, ends, at, is) refl

  module _ (glob : Option (List PatternData))
      (fits : globs_of (glob_flags (get (codes "glob_includedotfiles") d)) (get (codes "glob") d) ≡ Ok glob) where
    -- a query whose `since` is refused
    pub asks_unbounded : (fault : QueryFault) → GivesSince (Err fault) (since_of instance (get (codes "since") d))
        → GivesQuery (Err fault) (asks instance d)
    asks_unbounded BadClockSpec is = rw (none, one, expression, named, ends, at, fits, is) refl
    asks_unbounded NoMemory is = tt
    asks_unbounded LeftOutKey is = absurd is
    asks_unbounded ExpressionAndProgram is = absurd is
    asks_unbounded (Expression fault) is = absurd is
    asks_unbounded UnknownField is = absurd is
    asks_unbounded BadGenerator is = absurd is
    asks_unbounded PatternTooLong is = absurd is
    asks_unbounded WrongValue is = absurd is

    module _ (since : SinceData) (from : since_of instance (get (codes "since") d) ≡ Some since) where
      -- a query whose program is refused
      pub asks_unnamed : (fault : QueryFault) → GivesProgram (Err fault) (program_name (get (codes "program") d))
          → GivesQuery (Err fault) (asks instance d)
      asks_unnamed WrongValue is = rw (none, one, expression, named, ends, at, fits, from, is) refl
      asks_unnamed NoMemory is = tt
      asks_unnamed LeftOutKey is = absurd is
      asks_unnamed ExpressionAndProgram is = absurd is
      asks_unnamed (Expression fault) is = absurd is
      asks_unnamed UnknownField is = absurd is
      asks_unnamed BadGenerator is = absurd is
      asks_unnamed PatternTooLong is = absurd is
      asks_unnamed BadClockSpec is = absurd is

      module _ (program : Option (List ℕ)) (name : program_name (get (codes "program") d) ≡ Some program) where
        -- a query whose options are wrong
        pub asks_wrong : options_of d ≡ None → asks instance d ≡ Err WrongValue
        asks_wrong said = rw (none, one, expression, named, ends, at, fits, from, name, said) refl

        -- a query whose keys say this
        pub asks_at : (options : Options) → options_of d ≡ Some options
            → asks instance d ≡ Ok (record {
              expression = t;
              program = program;
              fields = fields;
              since = since;
              suffix = suffix;
              path = path;
              glob = glob;
              options = options;
            })
        asks_at options said = rw (none, one, expression, named, ends, at, fits, from, name, said) refl

-- a value that has items is their array
array_from : (d : Data) (ds : Items) → Some ds ≡ as_array d → d ≡ array ds
array_from null ds e = cc
array_from (boolean b) ds e = cc
array_from (number n) ds e = cc
array_from (string s) ds e = cc
array_from (array es) ds e = ap array (sym (same_Some ds es e))
array_from (object ms) ds e = cc

-- a list of names that is not empty
pub fields_found : (d : Data) (values : List Value) (answer : Result (Vec Field Global) QueryFault)
    → (length values == 0) ≡ false → Some (items_view values) ≡ as_array d
    → GivesFields answer (fields_in (items_view values)) → GivesFields answer (fields_of (Some d))
fields_found d [] answer e is given = absurd (false≢true (sym e))
fields_found d (v ∷ values) answer e is given =
    subst (λ o. GivesFields answer (fields_of (Some o))) (sym (array_from d _ is)) given
