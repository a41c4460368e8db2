-- The roots of a session that is served alone are ready for an ask, and those of the world are too.
use Rattle.std.proofs.Common.{◌≡◌, ◌⊎◌, ℕ, List, [], ◌∷◌, ◌++◌, Option, Some, None, option_map, Result, Ok, Err, inl, inr, refl, ap, sym, subst, ◌∙◌}
use Rattle.std.proofs.lemmas.Option.{same_Some}
use mathlib.Core.List.{IsPrefix}
use Rattle.wq_clock.specs.Instance.{InstanceData}
use Rattle.wq_clock.specs.Run.{RunData, instance_of, run_data}
use Rattle.wq_clock.specs.declared.run.Run.{Run}
use Rattle.wq_crawl.specs.Crawl.{Crawled, CrawlerData, IsNoPassOver, IsPassOver, Unwatched, WatchedAt, tells}
use Rattle.wq_crawl.specs.Publish.{EndsRoot, IsNotTakenIn, IsPlace, Passes, with_start}
use Rattle.wq_crawl.specs.Roots.{Fulfils, RootRequestData, RootsGive, ending as ends_number, passing, showing}
use Rattle.wq_crawl.specs.declared.fault.CrawlFault.{CrawlFault}
use Rattle.wq_crawl.specs.declared.fault.CrawlFault.TheVariants.{TooManyRoots, NoMemory}
use Rattle.wq_crawl.specs.declared.place.Place.{Place}
use Rattle.wq_crawl.specs.declared.place.Place.TheVariants.{Shown, Full, Free}
use Rattle.wq_live.specs.Event.{Root, number_of, shown_root}
use Rattle.wq_live.specs.Table.{IsTableOf, RootView, TableData, WantsForTicks, number_by_text, root_by_text}
use Rattle.wq_live.specs.declared.event.RootEvent.{RootEvent}
use Rattle.wq_live.specs.declared.event.RootEvent.TheVariants.{Ended}
use Rattle.wq_replay.proofs.Worlds.{crawls_shown, runs_one}
use Rattle.wq_crawl.specs.Meets.{Meets, MeetsAt, MeetsFor, at_end, at_root, ending, fault_for, looked}
use Rattle.wq_replay.specs.Playing.{Happens, Runs}
use Rattle.wq_crawl.specs.Meets.{RefusedData}
use Rattle.wq_replay.specs.World.{Crawls, HappeningData, Watches, WorldData, at_events, crawl as crawls_root, watching, refusing, unrefused}
use Rattle.wq_crawl.specs.Basis.{Basis}
use Rattle.wq_crawl.specs.Ready.{KnownData, Learns, Looks, LooksAfter, Readies, Unwatches, ended, ended_by}
use Rattle.wq_crawl.specs.Run.{ShowsAt}
use Rattle.wq_crawl.specs.Need.{NeedData, none, look, crawl, watch, unwatch}
use Rattle.wq_crawl.specs.At.{AtData}
use Rattle.wq_crawl.specs.Views.{ReadyData}
use Rattle.wq_view.specs.Listing.{PassData}
use Rattle.wq_view.specs.View.{HasOneView}
use Rattle.wq_headline.specs.Alone.{HappensFirst, IsCurrent, root_needed}
use Rattle.wq_headline.proofs.Faults.{crawl_fault, no_fault, refusal, watch_fault}
use Rattle.wq_headline.proofs.Lists.{list_before, number_by}
use Rattle.wq_headline.proofs.Looks.{root_at}

-- the roots of a world are those that a session knows
pub record ShowsRoots (run : Run) (known : KnownData) (world : WorldData) : Type 0 where
  pub current : IsCurrent known
  pub events : world.events ≡ known.seen
  pub of_run : world.run ≡ run_data run
  pub refused : world.refused ≡ None

-- an ask that is ready so is answered, too, that memory ran out
abbrev pub MayRunOut : ReadyData → Type 0
MayRunOut (Ok at) = Unit {0}
MayRunOut (Err fault) = fault ≡ NoMemory

-- a search that finds no root finds no number
none_numbered : (run : RunData) (found : Option RootView) → None ≡ option_map (at_root run) found → option_map (λ (root : RootView). root.number) found ≡ None
none_numbered run None is = refl
none_numbered run (Some root) is = absurd cc

module _ (one_view : HasOneView) (basis : Basis) (before after : KnownData) (world : WorldData) (shows : ShowsRoots basis.run before world)
    (current : IsCurrent after) where
  -- after the happenings that this need may have before it, the roots of the world are ready so; the
  -- clients and the shelf are as before
  abbrev pub IsReadyThere : NeedData → ReadyData → Type 0
  IsReadyThere need ready = (first : List HappeningData) × (between : WorldData) × HappensFirst need first
      × Runs world first [] between × Meets need between.run between.refused between.events ready after.seen
      × (between.run ≡ world.run) × (between.shelf ≡ world.shelf) × (between.follows ≡ world.follows)

  -- the look for an ask with this need was refused
  abbrev pub IsBlind : NeedData → Type 0
  IsBlind need = (root : List ℕ) × (number : ℕ) × (root_needed need ≡ Some root) × (number_of root after.seen ≡ Some number)
      × basis.refused after.seen

  -- a session is ready for a need as a world is; or it has no root, since its look was refused, or
  -- memory ran out for a root that has to be watched
  abbrev pub IsReadyAs : NeedData → ReadyData → ReadyData → Type 0
  IsReadyAs need other ready = (ready ≡ other)
      ⊎ (MayRunOut other × ((IsBlind need × (ready ≡ Ok None)) ⊎ ((root : List ℕ) × (need ≡ watch root) × (ready ≡ Err NoMemory))))

  -- the roots of the world are ready for a need for which those of the session are
  abbrev pub IsReadyToo : NeedData → ReadyData → Type 0
  IsReadyToo need ready = (other : ReadyData) × IsReadyThere need other × IsReadyAs need other ready

  -- the list that is published after the event is the session's last
  now_seen : (left : CrawlerData) → after.roots ≡ Some left → after.seen ≡ left.events
  now_seen left there = current.3 ∙ ap (λ (c : CrawlerData). c.events) (same_Some _ _ (sym current.2 ∙ there))

  -- the history of the world is the list of the crawler
  listed : world.events ≡ ((shows.current).0).events
  listed = shows.events ∙ (shows.current).3

  -- a session that learns nothing new knows the history of the world
  still_seen : after.roots ≡ Some (shows.current).0 → after.seen ≡ world.events
  still_seen there = now_seen (shows.current).0 there ∙ sym listed

  -- the table of the world
  abbrev table_before : TableData
  table_before = (shows.current).1

  of_before : IsTableOf world.events table_before
  of_before = subst (λ e. IsTableOf e table_before) (sym shows.events) (shows.current).4

  -- a request to the roots is one to their crawler
  crawler_gives : (roots left : Option CrawlerData) (request : RootRequestData) (told : Result (Option (List RootEvent)) CrawlFault)
      → roots ≡ Some (shows.current).0 → RootsGive roots request told left
      → (next : CrawlerData) × Fulfils request (shows.current).0 told next × (left ≡ Some next)
  crawler_gives roots left request told there gives = subst (λ (r : Option CrawlerData). RootsGive r request told left) there gives

  -- the number of a root in the world's table
  table_number : (root : List ℕ) (number : Option ℕ) → number_of root ((shows.current).0).events ≡ number → number_by_text root table_before ≡ number
  table_number root number numbered = number_by world.events table_before of_before root ∙ ap (number_of root) listed ∙ numbered

  -- roots of which nothing was refused meet a need
  meets : (need : NeedData) (ready : ReadyData) (events : List RootEvent) (table : TableData) → IsTableOf events table
      → MeetsAt (ending need table) need world.run table events ready after.seen → Meets need world.run None events ready after.seen
  meets need ready events table is does =
      (table, is, subst (λ f. MeetsFor f need world.run table events ready after.seen) (sym (no_fault need table)) does)

  -- a world in which nothing happens before the need
  at_once : (need : NeedData) (ready : ReadyData) → HappensFirst need [] → Meets need world.run None world.events ready after.seen → IsReadyThere need ready
  at_once need ready happens met =
      ([], world, happens, (refl, refl), subst (λ r. Meets need world.run r world.events ready after.seen) (sym shows.refused) met, refl, refl, refl)

  -- one in which something does, which sends nothing
  then_met : (need : NeedData) (ready : ReadyData) (happening : HappeningData) (events : List RootEvent) (refused : Option RefusedData) → HappensFirst need (happening ∷ [])
      → Happens world happening [] (record world { events = events; refused = refused }) → Meets need world.run refused events ready after.seen → IsReadyThere need ready
  then_met need ready happening events refused happens does met =
      let between : WorldData = record world { events = events; refused = refused } in
      (happening ∷ [], between, happens, runs_one world between happening [] does, met, refl, refl, refl)

  -- the root that is looked at in a history that the session knows
  meets_look : (need : NeedData) (events : List RootEvent) → after.seen ≡ events → ending need current.1 ≡ None
      → Meets need world.run None events (Ok (looked need world.run current.1)) after.seen
  meets_look need events seen ends =
      meets need (Ok (looked need world.run current.1)) events current.1 (subst (λ e. IsTableOf e current.1) seen current.4)
      (subst (λ n. MeetsAt n need world.run current.1 events (Ok (looked need world.run current.1)) after.seen) (sym ends) (refl, seen))

  -- the session looked at a root as the world does, or its look was refused
  looks_too : (need : NeedData) (root : List ℕ) (ready : ReadyData) (heard : KnownData) → root_needed need ≡ Some root
      → looked need world.run current.1 ≡ option_map (at_root world.run) (root_by_text root current.1)
      → IsReadyThere need (Ok (looked need world.run current.1)) → (at : Option AtData) × Looks basis root heard at after × (ready ≡ Ok at) → IsReadyToo need ready
  looks_too need root ready heard named found there (at, looks, is) =
      (Ok (looked need world.run current.1), there, by (root_at one_view basis.run root after.seen current.1 at current.4 looks.1))
    where
      by : (at ≡ option_map (at_root (run_data basis.run)) (root_by_text root current.1))
          ⊎ ((number : ℕ) × (number_of root after.seen ≡ Some number) × (at ≡ None) × (after.seen ≡ heard.seen) × basis.refused heard.seen)
          → IsReadyAs need (Ok (looked need world.run current.1)) ready
      by (inl same) = inl (is ∙ ap Ok (same ∙ ap (λ r. option_map (at_root r) (root_by_text root current.1)) (sym shows.of_run) ∙ sym found))
      by (inr (number, shown, unseen, same, refused)) =
          inr (tt, inl ((root, number, named, shown, subst (λ e. basis.refused e) (sym same) refused), is ∙ ap Ok unseen))

  -- the roots of the world met no need whose crawl or watching was refused
  meets_refused : (need : NeedData) (root : List ℕ) (fault : CrawlFault) → fault_for need table_before (refusal root fault) ≡ Some fault
      → after.seen ≡ world.events → Meets need world.run (refusal root fault) world.events (Err fault) after.seen
  meets_refused need root fault counts seen =
      (table_before, of_before, subst (λ f. MeetsFor f need world.run table_before world.events (Err fault) after.seen) (sym counts) (refl, seen))

  -- an ask that needs nothing
  none_well : (ready : ReadyData) → ready ≡ Ok None → after ≡ before → IsReadyToo none ready
  none_well ready is same =
      (Ok None, at_once none (Ok None) refl (meets_look none world.events (ap (λ (k : KnownData). k.seen) same ∙ sym shows.events) refl), inl is)

  -- one that looks at a root
  look_well : (root : List ℕ) (ready : ReadyData) → (at : Option AtData) × Looks basis root before at after × (ready ≡ Ok at) → IsReadyToo (look root) ready
  look_well root ready it =
      looks_too (look root) root ready before refl refl
      (at_once (look root) (Ok (looked (look root) world.run current.1)) refl (meets_look (look root) world.events (still_seen ((it.1).0 ∙ (shows.current).2)) refl)) it

  -- one that the roots were asked for before, who told something
  module _ (root : List ℕ) (ready : ReadyData) (told : Result (Option (List RootEvent)) CrawlFault) (heard : KnownData) (left : CrawlerData)
      (there : heard.roots ≡ Some left) (looks : LooksAfter basis root told heard ready after) where
    -- a list, or none
    looked_after : (list : Option (List RootEvent)) → told ≡ Ok list → (at : Option AtData) × Looks basis root heard at after × (ready ≡ Ok at)
    looked_after list is = subst (λ t. LooksAfter basis root t heard ready after) is looks

    -- or why they refused
    refused_after : (fault : CrawlFault) → told ≡ Err fault → (ready ≡ Err fault) × (after.roots ≡ Some left)
    refused_after fault is =
        let it = subst (λ t. LooksAfter basis root t heard ready after) is looks in
        (it.0, ap (λ (k : KnownData). k.roots) it.1 ∙ there)

    -- the crawl or the watching was refused in the world too
    refused_too : (need : NeedData) (happening : HappeningData) (fault : CrawlFault) → HappensFirst need (happening ∷ [])
        → Happens world happening [] (refusing root fault world) → fault_for need table_before (refusal root fault) ≡ Some fault
        → left.events ≡ ((shows.current).0).events → told ≡ Err fault → IsReadyToo need ready
    refused_too need happening fault happens does counts same is =
        let it = refused_after fault is in (
          Err fault,
          then_met need (Err fault) happening world.events (refusal root fault) happens does
              (meets_refused need root fault counts (now_seen left it.1 ∙ same ∙ sym listed)),
          inl it.0,
        )

    -- the crawl of the world that is refused as that of the session was
    crawl_refused : (number : ℕ) (fault : CrawlFault) → number_of root ((shows.current).0).events ≡ Some number
        → IsNoPassOver root (shows.current).0 fault left ⊎ ((pass : PassData) × IsPassOver root (shows.current).0 pass left × IsNotTakenIn ((shows.current).0).events number pass fault)
        → (seen : Result PassData CrawlFault) × Crawls world root seen (refusing root fault world)
    crawl_refused number fault numbered (inl unlisted) = (Err fault, refl)
    crawl_refused number fault numbered (inr (pass, over, inr memory)) = (Err fault, refl)
    crawl_refused number fault numbered (inr (pass, over, inl (spent, wants))) = (
      Ok pass,
      crawls_shown world (refusing root fault world) root pass number (ap (number_of root) listed ∙ numbered)
          (inr (inl (refl, subst (λ e. WantsForTicks e number pass) (sym listed) wants), ap (λ f. refusing root f world) spent)),
    )

    -- an ask that needs a crawl
    crawl_well : Crawled root (shows.current).0 told left → IsReadyToo (crawl root) ready
    crawl_well (inl (absent, is, same)) =
        let it = looked_after None is in
        looks_too (crawl root) root ready heard refl refl
        (at_once (crawl root) (Ok (looked (crawl root) world.run current.1)) (inl refl)
        (meets_look (crawl root) world.events (still_seen ((it.1).0 ∙ there ∙ ap Some same)) refl)) it
    crawl_well (inr (number, Ok list, numbered, is, ((lists, pass, over, passes), whole))) =
        let it = looked_after (Some list) is in
        looks_too (crawl root) root ready heard refl refl
        (then_met (crawl root) (Ok (looked (crawl root) world.run current.1)) (crawls_root root (Ok pass)) left.events None (inr (Ok pass, refl)) (
          refl,
          crawls_shown world (unrefused (at_events left.events world)) root pass number (ap (number_of root) listed ∙ numbered)
              (inl (left.events, subst (λ e. Passes e number pass left.events) (sym listed) passes, refl)),
        )
        (meets_look (crawl root) left.events (now_seen left ((it.1).0 ∙ there)) refl)) it
    crawl_well (inr (number, Err fault, numbered, is, ((same, why), whole))) =
        let does = crawl_refused number fault numbered why in
        refused_too (crawl root) (crawls_root root does.0) fault (inr (does.0, refl)) (refl, does.1)
        (crawl_fault root fault table_before number (table_number root (Some number) numbered)) same is

    -- an ask that needs that its root is watched, if the root is refused
    watch_refused : (fault : CrawlFault) (seen : Result PassData CrawlFault) → number_of root ((shows.current).0).events ≡ None
        → left.events ≡ ((shows.current).0).events → told ≡ Err fault → Watches world root seen (refusing root fault world) → IsReadyToo (watch root) ready
    watch_refused fault seen numbered same is watches =
        refused_too (watch root) (watching root seen) fault (inr (seen, refl)) (refl, watches)
        (watch_fault root fault table_before (table_number root None numbered)) same is

    -- or in any case
    watch_well : (place : Place) (answer : Result (List RootEvent) CrawlFault) → told ≡ tells answer
        → IsPlace root ((shows.current).0).events place → WatchedAt place root (shows.current).0 answer left → IsReadyToo (watch root) ready
    watch_well (Shown number) (Ok list) is found (lists, same) =
        let it = looked_after (Some list) is in
        looks_too (watch root) root ready heard refl refl
        (at_once (watch root) (Ok (looked (watch root) world.run current.1)) (inl refl)
        (meets_look (watch root) world.events (still_seen ((it.1).0 ∙ there ∙ ap Some same)) refl)) it
    watch_well (Shown number) (Err fault) is found (memory, same) =
        let it = refused_after fault is in (
          Ok (looked (watch root) world.run current.1),
          at_once (watch root) (Ok (looked (watch root) world.run current.1)) (inl refl)
              (meets_look (watch root) world.events (still_seen (it.1 ∙ ap Some same)) refl),
          inr (tt, inr (root, refl, it.0 ∙ ap Err memory)),
        )
    watch_well Full answer is found (full, same) =
        watch_refused TooManyRoots (Err TooManyRoots) found.0 (ap (λ (c : CrawlerData). c.events) same) (is ∙ ap tells full)
        (Full, subst (λ e. IsPlace root e Full) (sym listed) found, refl)
    watch_well Free (Ok list) is found (lists, pass, over, starts, whole) =
        let it = looked_after (Some list) is in
        looks_too (watch root) root ready heard refl refl
        (then_met (watch root) (Ok (looked (watch root) world.run current.1)) (watching root (Ok pass)) (with_start root pass world.events) None (inr (Ok pass, refl))
        (refl, (Free, subst (λ e. IsPlace root e Free) (sym listed) found, refl))
        (meets_look (watch root) (with_start root pass world.events)
        (now_seen left ((it.1).0 ∙ there) ∙ starts ∙ ap (with_start root pass) (sym listed)) refl)) it
    watch_well Free (Err fault) is found (same, why) =
        watch_refused fault (Err fault) found.0 same is (Free, subst (λ e. IsPlace root e Free) (sym listed) found, refl)

  -- one that ends a root, of this number in the world, or of none
  ends_too : (root : List ℕ) (number : Option ℕ) (other ready : ReadyData) → number_by_text root table_before ≡ number
      → MeetsAt number (unwatch root) world.run table_before world.events other after.seen → IsReadyAs (unwatch root) other ready → IsReadyToo (unwatch root) ready
  ends_too root number other ready numbered does agrees = (
    other,
    at_once (unwatch root) other refl
        (meets (unwatch root) other world.events table_before of_before
        (subst (λ n. MeetsAt n (unwatch root) world.run table_before world.events other after.seen) (sym numbered) does)),
    agrees,
  )

  -- the session found no root
  no_end : (root : List ℕ) (ready : ReadyData) → ready ≡ Ok None → Looks basis root before None after → IsReadyToo (unwatch root) ready
  no_end root ready is (roots, sees) =
      by (root_at one_view basis.run root after.seen table_before None (subst (λ e. IsTableOf e table_before) (sym seen) of_before) sees)
    where
      seen : after.seen ≡ world.events
      seen = still_seen (roots ∙ (shows.current).2)

      by : (None ≡ option_map (at_root (run_data basis.run)) (root_by_text root table_before))
          ⊎ ((number : ℕ) × (number_of root after.seen ≡ Some number) × (◌≡◌ {A = Option AtData} None None) × (after.seen ≡ before.seen) × basis.refused before.seen)
          → IsReadyToo (unwatch root) ready
      by (inl absent) =
          ends_too root None (Ok None) ready (none_numbered (run_data basis.run) (root_by_text root table_before) absent) (refl, seen) (inl is)
      by (inr (number, there, unseen, same, refused)) =
          ends_too root (Some number) (Err NoMemory) ready (table_number root (Some number) (ap (number_of root) (sym (seen ∙ listed)) ∙ there)) (inr (refl, seen))
          (inr (refl, inl ((root, number, refl, there, subst (λ e. basis.refused e) (sym same) refused), is)))

  -- the session found a root, whose end was told
  end_told : (root : List ℕ) (at : AtData) (seen : List RootEvent) (left : CrawlerData) (found : Root) (ready : ReadyData) → shown_root root seen ≡ Some found
      → at.instance ≡ instance_of (run_data basis.run) found.number → IsPrefix ((shows.current).0).events seen → IsPrefix seen left.events
      → EndsRoot ((shows.current).0).events (at.instance).root left.events → after.roots ≡ Some left
      → ready ≡ Ok (Some (ended at.instance)) → IsReadyToo (unwatch root) ready
  end_told root at seen left found ready shown instance begins goes ends there is =
      let number : (at.instance).root ≡ found.number = ap (λ (i : InstanceData). i.root) instance in
      let old = list_before ((shows.current).0).events seen left.events root found (at.instance).root number begins goes ends shown in
      ends_too root (Some found.number) (Ok (Some (at_end world.run found.number))) ready
      (table_number root (Some found.number) (ap (option_map (λ (r : Root). r.number)) (ap (shown_root root) (sym old.0) ∙ shown)))
      (inl (refl, now_seen left there ∙ old.2 ∙ ap (λ e. e ++ Ended (at.instance).root ∷ []) (sym listed) ∙ ap (λ n. world.events ++ Ended n ∷ []) number))
      (inl (is ∙ ap (λ i. Ok (Some (ended i))) (instance ∙ ap (λ r. instance_of r found.number) (sym shows.of_run))))

  -- or not told, since memory ran out
  told_end : (root : List ℕ) (at : AtData) (seen : KnownData) (ready : ReadyData) (told answer : Result (List RootEvent) CrawlFault) (left : CrawlerData)
      → (IsPrefix before.seen seen.seen × ShowsAt basis.run root seen.seen (Some at) × basis.published seen.seen)
      ⊎ ((seen.seen ≡ before.seen) × (Some at ≡ None) × basis.refused before.seen)
      → tells told ≡ tells answer → Unwatched (at.instance).root (shows.current).0 answer left → after.roots ≡ Some left
      → Learns seen.seen (tells told) after.seen → ready ≡ ended_by at told → IsReadyToo (unwatch root) ready
  told_end root at seen ready told answer left (inr (same, unseen, refused)) is unwatched there learns readies = absurd cc
  told_end root at seen ready (Ok list) (Err fault) left (inl sees) is unwatched there learns readies = absurd cc
  told_end root at seen ready (Err fault) (Ok list) left (inl sees) is unwatched there learns readies = absurd cc
  told_end root at seen ready (Ok list) (Ok other) left (inl (begins, (lawful, (found, shown, instance, view, there_view, views)), published)) is (lists, ends, same) there learns readies =
      end_told root at seen.seen left found ready shown instance (subst (λ e. IsPrefix e seen.seen) (shows.current).3 begins)
      (subst (IsPrefix seen.seen) (now_seen left there) learns.0) ends there readies
  told_end root at seen ready (Err fault) (Err other) left (inl (begins, (lawful, (found, shown, instance, view, there_view, views)), published)) is (memory, same) there learns readies =
      let one : fault ≡ other = cc is in
      let now = now_seen (shows.current).0 (there ∙ ap Some same) in
      ends_too root (Some found.number) (Err NoMemory) ready
      (table_number root (Some found.number) (ap (option_map (λ (r : Root). r.number)) (ap (shown_root root) (sym now ∙ learns) ∙ shown)))
      (inr (refl, now ∙ sym listed)) (inl (readies ∙ ap Err (one ∙ memory)))

  unwatch_well : (root : List ℕ) (at : Option AtData) (seen : KnownData) (ready : ReadyData) → Looks basis root before at seen → Unwatches at seen ready after
      → IsReadyToo (unwatch root) ready
  unwatch_well root None seen ready looks (is, same) = no_end root ready is (subst (Looks basis root before None) (sym same) looks)
  unwatch_well root (Some at) seen ready looks (told, (gives, learns), is) =
      let it = crawler_gives seen.roots after.roots (ends_number (at.instance).root) (tells told) (looks.0 ∙ (shows.current).2) gives in
      told_end root at seen ready told (it.1).0 it.0 looks.1 (it.1).1 (it.1).2 it.2 learns is

  -- an ask by what it needs
  pub readies_well : (need : NeedData) (ready : ReadyData) → Readies basis need before ready after → IsReadyToo need ready
  readies_well none ready (is, same) = none_well ready is same
  readies_well (look root) ready it = look_well root ready it
  readies_well (crawl root) ready (told, heard, (gives, learns), looks) =
      let it = crawler_gives before.roots heard.roots (passing root) told (shows.current).2 gives in
      crawl_well root ready told heard it.0 it.2 looks it.1
  readies_well (watch root) ready (told, heard, (gives, learns), looks) =
      let it = crawler_gives before.roots heard.roots (showing root) told (shows.current).2 gives in
      let does = it.1 in
      watch_well root ready told heard it.0 it.2 looks (does.2).0 does.0 does.1 (does.2).1 (does.2).2
  readies_well (unwatch root) ready (at, seen, looks, unwatches) = unwatch_well root at seen ready looks unwatches
