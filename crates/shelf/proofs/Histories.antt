-- History, over any run of calls, and isolation.
-- Assumes nothing.
use mathlib.Core.Path.{◌≡◌, refl, sym, ap, ◌∙◌}
use mathlib.Core.Bool.{true, false, cond}
use mathlib.Core.Logic.{inl, inr}
use mathlib.Core.List.{List, [], ◌∷◌, ◌++◌}
use Prim.Native.Nat.{ℕ, zero, suc, ◌<◌}
use native.Mathlib.Omega.{arith}
use borrow.Author.Tests.{eq-eqb, ne_eqb}
use lib.Dec.{eqb}
use lib.ListN.{length, get_or, drop}
use Rattle.wire.specs.PhySet.{member}
use Rattle.wire.proofs.Sets.{member_front}
use Rattle.permit.specs.Permission.{table_size, reaches, start_table}
use Rattle.permit.specs.Orders.{Order, apply}
use Rattle.permit.specs.History.{Zone, Valid, latest}
use Rattle.permit.proofs.Laws.{length-start}
use Rattle.permit.proofs.ReachLaws.{reach_in, reaches_mutual}
use Rattle.permit.proofs.HistoryLaws.{apply-append, length-apply, valid_append, history}
use Rattle.tables.specs.Refusals.{first_refusal}
use Rattle.tables.specs.Outcome.{out, outcome}
use Rattle.tables.specs.Phys.{phy_group}
use Rattle.links.specs.Links.{start_up_out}
use Rattle.opens.specs.Open.{open_source}
use Rattle.opens.proofs.OpenLaws as opens
use Rattle.told_set.specs.ToldSet.{told_set}
use Rattle.told_set.proofs.ToldLaws as broadcasts
use Rattle.discover.specs.declared.Changes.{Changes}
use Rattle.smp.specs.Smp.{room_for, smp_checks, smp_out, accepted_orders}
use Rattle.smp.proofs.SmpLaws.{permissions_after, orders_applied, orders_valid}
use Rattle.imports.specs.Import.{import_out, import_orders}
use Rattle.imports.proofs.Accepted as imports
use Rattle.file_pairs.specs.Pairs.{ascending, orders_of, loaded}
use Rattle.file_pairs.proofs.Records as records
use Rattle.file_trailer.specs.Trailer.{version_of, pairs_in}
use Rattle.version_1.specs.Version1.{load_checks}
use Rattle.version_1.proofs.Loads.{load_ascends}
use Rattle.version_2.specs.Version2.{load_whole_checks, phys_after}
use Rattle.version_2.proofs.WholeLoads.{load_pairs}
use Rattle.shelf.specs.Calls.{Call, start_up, leaving, identify, elect, opening, primitive, broadcast_frame, smp, import_sheet, export_sheet, save_version1, save_version2, load_version1, load_version2, outcome_of, answer_of, buffer_of, after, accepted, kept, run, orders}
use Rattle.shelf.specs.Promises.{History, BothWays, NoOpen, NoBroadcast, NoDiscover}
use Rattle.shelf.proofs.Answers.{gave, forwarded, vacant}

-- the table is what the orders made of start-up's
record Made (w : ℕ) (t : List ℕ) (os : List Order) : Type 0 where
  made : t ≡ apply w os (start_table w)
  valid : Valid w os

append_nil : (os : List Order) → os ++ [] ≡ os
append_nil [] = refl
append_nil (o ∷ os) = ap (λ (l : List Order). o ∷ l) (append_nil os)

nothing_more : (w : ℕ) (t : List ℕ) (os : List Order) → Made w t os → Made w t (os ++ [])
nothing_more w t os m = rw append_nil m

-- buffer 1 of an outcome: the new one at 0, else the one handed in
second : (n : ℕ) (values : List ℕ) (a b : List ℕ) (os : List (List ℕ)) (c d : List ℕ) (ns : List (List ℕ))
    → buffer_of 1 (outcome n values (a ∷ b ∷ os) (c ∷ d ∷ ns)) ≡ cond (eqb n 0) d b
unfolding outcome
second zero values a b os c d ns = refl
second (suc n) values a b os c d ns = rw (ne_eqb (suc n) 0 (λ z. omega arith))

-- the permission table is the one in the call's contract
smp_table : (w : ℕ) (phys t : List ℕ) (phy carried : ℕ) (changes : Changes) (request response set : List ℕ)
    → buffer_of 1 (smp_out w phys t phy carried changes request response set) ≡ permissions_after w phys t phy carried changes request (room_for response set)
unfolding permissions_after
smp_table w phys t phy carried changes request response set =
    second (first_refusal (smp_checks w phys t phy carried changes request (room_for response set))) _ _ _ _ _ _ _

-- of an outcome of one buffer, whichever its number: it is the answer and that buffer
whole : (n : ℕ) (values a b : List ℕ) → outcome n values (a ∷ []) (b ∷ []) ≡ out (answer_of (outcome n values (a ∷ []) (b ∷ []))) (buffer_of 0 (outcome n values (a ∷ []) (b ∷ [])) ∷ [])
unfolding outcome
whole zero values a b = refl
whole (suc n) values a b = refl

-- an import's table is what its accepted orders make of the one handed in
import_table : (w : ℕ) (phys t : List ℕ) (phy carried : ℕ) (sheet : List ℕ)
    → buffer_of 0 (import_out w phys t phy carried sheet) ≡ apply w (import_orders w phys t phy carried sheet) t
import_table w phys t phy carried sheet = imports.orders_applied w phys t phy carried sheet _ _ (whole _ _ _ _)

start_table_lem : (w : ℕ) (t : List ℕ) → length t ≡ table_size w → buffer_of 0 (start_up_out w t) ≡ start_table w
unfolding outcome first_refusal
start_table_lem w t e = rw (eq-eqb (length t) (table_size w) e)

length_made : (w : ℕ) (t : List ℕ) (os : List Order) → Made w t os → length t ≡ table_size w
length_made w t os m = ap length m.made ∙ length-apply w os (start_table w) ∙ length-start w

-- start-up of a table of its size begins the history afresh
afresh : (w : ℕ) (t : List ℕ) (os : List Order) → length t ≡ table_size w → kept w start_up t os ++ accepted w start_up t ≡ []
unfolding kept accepted
afresh w t os e = rw (eq-eqb (length t) (table_size w) e)

begins : (w : ℕ) (t : List ℕ) (os : List Order) → length t ≡ table_size w → Made w (after w start_up t) (kept w start_up t os ++ accepted w start_up t)
unfolding after outcome_of apply
begins w t os e = rw (afresh w t os e) (record { made = start_table_lem w t e; valid = tt })

-- ---- a load is start-up and then its orders, where it is not refused
-- buffer 0 of an outcome, as buffer 1
first-buffer : (n : ℕ) (values : List ℕ) (b : List ℕ) (os : List (List ℕ)) (d : List ℕ) (ns : List (List ℕ))
    → buffer_of 0 (outcome n values (b ∷ os) (d ∷ ns)) ≡ cond (eqb n 0) d b
unfolding outcome
first-buffer zero values b os d ns = refl
first-buffer (suc n) values b os d ns = rw (ne_eqb (suc n) 0 (λ z. omega arith))

-- with n what its checks answer
loads_made : (w n : ℕ) (t file : List ℕ) (os : List Order) → Made w t os → (n ≡ 0 → ascending w 0 (pairs_in file) ≡ true)
    → Made w (cond (eqb n 0) (loaded w (pairs_in file)) t) (cond (eqb n 0) [] os ++ cond (eqb n 0) (orders_of (pairs_in file)) [])
unfolding loaded
loads_made w zero t file os m f = record { made = refl; valid = records.orders_valid w 0 (pairs_in file) (records.ascends w 0 (pairs_in file) (f refl)) }
loads_made w (suc n) t file os m f = rw (ne_eqb (suc n) 0 (λ z. omega arith)) (nothing_more w t os m)

-- one call
step : (w : ℕ) (c : Call) (t : List ℕ) (os : List Order) → Made w t os → Made w (after w c t) (kept w c t os ++ accepted w c t)
unfolding after accepted kept outcome_of apply
step w start_up t os m = begins w t os (length_made w t os m)
step w (leaving phys phy) t os m = nothing_more w t os m
step w (identify phys phy address device attached) t os m = nothing_more w t os m
step w (elect phys routes) t os m = nothing_more w t os m
step w (opening phys routes phy frame buffer) t os m = nothing_more w t os m
step w (primitive phys phy number set frame) t os m = nothing_more w t os m
step w (broadcast_frame phys phy arrived set frame) t os m = nothing_more w t os m
step w (export_sheet sheet) t os m = nothing_more w t os m
step w (save_version1 file) t os m = nothing_more w t os m
step w (save_version2 phys file) t os m = nothing_more w t os m
step w (load_version1 file) t os m =
    rw (first-buffer (first_refusal (load_checks w t file)) (1 ∷ []) t [] (loaded w (pairs_in file)) [])
    (loads_made w (first_refusal (load_checks w t file)) t file os m (λ z. load_ascends w t file (sym z)))
step w (load_version2 phys file) t os m =
    rw (second (first_refusal (load_whole_checks w phys t file)) (version_of file ∷ []) phys t [] (phys_after phys file) (loaded w (pairs_in file)) [])
    (loads_made w (first_refusal (load_whole_checks w phys t file)) t file os m (λ z. (load_pairs w phys t file (sym z)).1))
step w (import_sheet phys phy carried sheet) t os m =
    let os₁ = import_orders w phys t phy carried sheet in
    record {
      made = import_table w phys t phy carried sheet ∙ ap (apply w os₁) m.made ∙ sym (apply-append w os os₁ (start_table w));
      valid = valid_append w os os₁ m.valid (imports.valid_orders w phys t phy carried sheet);
    }
step w (smp phys phy carried changes request response set) t os m =
    let os₁ = accepted_orders w phys t phy carried changes request (room_for response set) in
    record {
      made =
          smp_table w phys t phy carried changes request response set
          ∙ orders_applied w phys t phy carried changes request (room_for response set)
          ∙ ap (apply w os₁) m.made
          ∙ sym (apply-append w os os₁ (start_table w));
      valid = valid_append w os os₁ m.valid (orders_valid w phys t phy carried changes request (room_for response set));
    }

runs : (w : ℕ) (cs : List Call) (t : List ℕ) (os : List Order) → Made w t os → Made w (run w cs t) (orders w cs t os)
unfolding run orders
runs w [] t os m = m
runs w (c ∷ cs) t os m = runs w cs (after w c t) (kept w c t os ++ accepted w c t) (step w c t os m)

-- a run that begins with a start-up
begun : (w : ℕ) (t : List ℕ) (cs : List Call) → length t ≡ table_size w → Made w (run w (start_up ∷ cs) t) (orders w (start_up ∷ cs) t [])
unfolding run orders after accepted kept outcome_of apply
begun w t cs e = runs w cs _ _ (begins w t [] e)

pub any_run : History
any_run w t cs e =
    let m = begun w t cs e in
    rw m.made (history w (orders w (start_up ∷ cs) t []) m.valid)

pub both_ways_lem : BothWays
both_ways_lem w t cs e a b = reaches_mutual w (run w (start_up ∷ cs) t) (any_run w t cs e).both_ways a b

-- ---- isolation
-- the permission between two groups that no order, or none lately, switched on is off
off : (w : ℕ) (t : List ℕ) (cs : List Call) → length t ≡ table_size w → (a b : ℕ) → Zone w a → Zone w b → latest (orders w (start_up ∷ cs) t []) a b false ≡ false
    → reaches w (run w (start_up ∷ cs) t) a b ≡ false
off w t cs e a b za zb h = sym (reach_in w _ a b _ za.1 zb.1 refl) ∙ (any_run w t cs e).pairs a b za zb ∙ h

pub no_open : NoOpen
no_open w t cs e phys routes phy frame buffer d s za zb h q o =
    opens.barred w phys routes (run w (start_up ∷ cs) t) phy frame d s (off w t cs e (open_source phys phy frame) d.group.0 za zb h) q
    (forwarded w phys routes (run w (start_up ∷ cs) t) phy frame buffer q o)

-- a phy of a group that the source may not reach is not in the set at the head of the buffer
unheard : (w : ℕ) (phys t : List ℕ) (phy source s i : ℕ) (rest : List ℕ) → s ≡ source → i < 128 → reaches w t source (phy_group phys i) ≡ false
    → member (told_set w phys t phy s ++ rest) i ≡ false
unheard w phys t phy source s i rest e h p =
    rw e (member_front _ rest i (broadcasts.length-told w phys t phy source) h ∙ broadcasts.barred w phys t phy source i h p)

pub no_broadcast : NoBroadcast
no_broadcast w t cs e phys phy arrived set frame number source i hi za zb h v bs (inl (es, o)) =
    ap (λ (b : List (List ℕ)). member (get_or b 0 []) i) (gave _ _ _ _ _ bs o).1
    ∙ unheard w phys (run w (start_up ∷ cs) t) phy source _ i (drop 16 set) (sym es) hi (off w t cs e source (phy_group phys i) za zb h)
no_broadcast w t cs e phys phy arrived set frame number source i hi za zb h v bs (inr (es, o)) =
    ap (λ (b : List (List ℕ)). member (get_or b 0 []) i) (gave _ _ _ _ _ bs o).1
    ∙ unheard w phys (run w (start_up ∷ cs) t) phy source _ i (drop 16 set) (sym es) hi (off w t cs e source (phy_group phys i) za zb h)

pub no_discover : NoDiscover
no_discover w t cs e phys phy carried changes request response set a b d za zb h v bs o =
    vacant w phys (run w (start_up ∷ cs) t) phy carried changes request response set a b d (off w t cs e a b za zb h) v bs o
