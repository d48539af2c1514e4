-- Every public call as data, with all that it is handed beside the permission table; and what a run of calls does to that table.
use Rattle.std.specs.Prelude.{List, [], ◌∷◌, ◌++◌, ℕ, cond, eqb, get_or}
use Rattle.permit.specs.Permission.{permissions_sized}
use Rattle.permit.specs.Orders.{Order}
use Rattle.tables.specs.Refusals.{Check, first_refusal}
use Rattle.tables.specs.Outcome.{Answer, Out, out}
use Rattle.links.specs.Links.{start_up_out, leaving_out, identify_out}
use Rattle.election.specs.Election.{elect_out}
use Rattle.opens.specs.Open.{open_out}
use Rattle.broadcasts.specs.Broadcasts.{primitive_out, broadcast_out}
use Rattle.discover.specs.declared.Changes.{Changes}
use Rattle.smp.specs.Smp.{room_for, smp_out, accepted_orders}
use Rattle.imports.specs.Import.{import_out, import_orders}
use Rattle.exports.specs.Export.{export_out}
use Rattle.file_pairs.specs.Pairs.{orders_of}
use Rattle.file_trailer.specs.Trailer.{pairs_in}
use Rattle.version_1.specs.Version1.{save_out, load_checks, load_out}
use Rattle.version_2.specs.Version2.{save_whole_out, load_whole_checks, load_whole_out}

-- the other tables may be anything at each call
pub data Call : Type 0 where
  start_up : Call
  leaving : (phys : List ℕ) (phy : ℕ) → Call
  identify : (phys : List ℕ) (phy : ℕ) (address : List ℕ) (device attached : ℕ) → Call
  elect : (phys routes : List ℕ) → Call
  opening : (phys routes : List ℕ) (phy : ℕ) (frame buffer : List ℕ) → Call
  primitive : (phys : List ℕ) (phy number : ℕ) (set frame : List ℕ) → Call
  broadcast_frame : (phys : List ℕ) (phy : ℕ) (arrived set frame : List ℕ) → Call
  smp : (phys : List ℕ) (phy carried : ℕ) (changes : Changes) (request response set : List ℕ) → Call
  import_sheet : (phys : List ℕ) (phy carried : ℕ) (sheet : List ℕ) → Call
  export_sheet : (sheet : List ℕ) → Call
  save_version1 : (file : List ℕ) → Call
  save_version2 : (phys file : List ℕ) → Call
  load_version1 : (file : List ℕ) → Call
  load_version2 : (phys file : List ℕ) → Call

-- what a call gives, lent the permission table t, whose rows have w bytes: the definition in its contract. Document 01's shelf is w = 16,
-- the small shelf w = 1.
unfoldable pub outcome_of : ℕ → Call → List ℕ → Out
outcome_of w start_up t = start_up_out w t
outcome_of w (leaving phys phy) t = leaving_out phys phy
outcome_of w (identify phys phy address device attached) t = identify_out phys phy address device attached
outcome_of w (elect phys routes) t = elect_out phys routes
outcome_of w (opening phys routes phy frame buffer) t = open_out w phys routes t phy frame buffer
outcome_of w (primitive phys phy number set frame) t = primitive_out w phys t phy number set frame
outcome_of w (broadcast_frame phys phy arrived set frame) t = broadcast_out w phys t phy arrived set frame
outcome_of w (smp phys phy carried changes request response set) t = smp_out w phys t phy carried changes request response set
outcome_of w (import_sheet phys phy carried sheet) t = import_out w phys t phy carried sheet
outcome_of w (export_sheet sheet) t = export_out w t sheet
outcome_of w (save_version1 file) t = save_out w t file
outcome_of w (save_version2 phys file) t = save_whole_out w phys t file
outcome_of w (load_version1 file) t = load_out w t file
outcome_of w (load_version2 phys file) t = load_whole_out w phys t file

-- the buffers that a call is lent to be written, as they were handed in
unfoldable pub handed_in : Call → List ℕ → List (List ℕ)
handed_in start_up t = t ∷ []
handed_in (leaving phys phy) t = phys ∷ []
handed_in (identify phys phy address device attached) t = phys ∷ []
handed_in (elect phys routes) t = []
handed_in (opening phys routes phy frame buffer) t = buffer ∷ []
handed_in (primitive phys phy number set frame) t = set ∷ frame ∷ []
handed_in (broadcast_frame phys phy arrived set frame) t = set ∷ frame ∷ []
handed_in (smp phys phy carried changes request response set) t = phys ∷ t ∷ response ∷ set ∷ []
handed_in (import_sheet phys phy carried sheet) t = t ∷ []
handed_in (export_sheet sheet) t = sheet ∷ []
handed_in (save_version1 file) t = file ∷ []
handed_in (save_version2 phys file) t = file ∷ []
handed_in (load_version1 file) t = t ∷ []
handed_in (load_version2 phys file) t = phys ∷ t ∷ []

-- the answer alone
abbrev pub answer_of : Out → Answer
answer_of (out a bs) = a

-- buffer k at exit
abbrev pub buffer_of : ℕ → Out → List ℕ
buffer_of k (out a bs) = get_or bs k []

-- the permission table after a call: only start-up, SMP, an import and a load are lent it to be written
unfoldable pub after : ℕ → Call → List ℕ → List ℕ
after w start_up t = buffer_of 0 (outcome_of w start_up t)
after w (smp phys phy carried changes request response set) t = buffer_of 1 (outcome_of w (smp phys phy carried changes request response set) t)
after w (leaving phys phy) t = t
after w (identify phys phy address device attached) t = t
after w (elect phys routes) t = t
after w (opening phys routes phy frame buffer) t = t
after w (primitive phys phy number set frame) t = t
after w (broadcast_frame phys phy arrived set frame) t = t
after w (import_sheet phys phy carried sheet) t = buffer_of 0 (outcome_of w (import_sheet phys phy carried sheet) t)
after w (export_sheet sheet) t = t
after w (save_version1 file) t = t
after w (save_version2 phys file) t = t
after w (load_version1 file) t = buffer_of 0 (outcome_of w (load_version1 file) t)
after w (load_version2 phys file) t = buffer_of 1 (outcome_of w (load_version2 phys file) t)

-- "a load that isn't refused counts as start-up and then a switch-on of each listed pair": what counts where its checks refuse nothing, else the other
abbrev pub if_loaded : {A : Type 0} → List Check → A → A → A
if_loaded checks done refused = cond (eqb (first_refusal checks) 0) done refused

-- the orders that a call accepted: those of an SMP request answered 00h with C1h; of an import its lines, up to the first that failed;
-- of a load a switch-on of each listed pair
unfoldable pub accepted : ℕ → Call → List ℕ → List Order
accepted w (smp phys phy carried changes request response set) t = accepted_orders w phys t phy carried changes request (room_for response set)
accepted w start_up t = []
accepted w (leaving phys phy) t = []
accepted w (identify phys phy address device attached) t = []
accepted w (elect phys routes) t = []
accepted w (opening phys routes phy frame buffer) t = []
accepted w (primitive phys phy number set frame) t = []
accepted w (broadcast_frame phys phy arrived set frame) t = []
accepted w (import_sheet phys phy carried sheet) t = import_orders w phys t phy carried sheet
accepted w (export_sheet sheet) t = []
accepted w (save_version1 file) t = []
accepted w (save_version2 phys file) t = []
accepted w (load_version1 file) t = if_loaded (load_checks w t file) (orders_of (pairs_in file)) []
accepted w (load_version2 phys file) t = if_loaded (load_whole_checks w phys t file) (orders_of (pairs_in file)) []

-- "A restart begins the history afresh.": what is kept of the orders os as the call starts, lent the table t. A start-up that is refused (the
-- table has not its size) is none. A load begins it afresh too, with its own orders.
unfoldable pub kept : ℕ → Call → List ℕ → List Order → List Order
kept w start_up t os = cond (permissions_sized w t) [] os
kept w (leaving phys phy) t os = os
kept w (identify phys phy address device attached) t os = os
kept w (elect phys routes) t os = os
kept w (opening phys routes phy frame buffer) t os = os
kept w (primitive phys phy number set frame) t os = os
kept w (broadcast_frame phys phy arrived set frame) t os = os
kept w (smp phys phy carried changes request response set) t os = os
kept w (import_sheet phys phy carried sheet) t os = os
kept w (export_sheet sheet) t os = os
kept w (save_version1 file) t os = os
kept w (save_version2 phys file) t os = os
kept w (load_version1 file) t os = if_loaded (load_checks w t file) [] os
kept w (load_version2 phys file) t os = if_loaded (load_whole_checks w phys t file) [] os

-- "while each call is lent the same permission table and only this software writes it": the table after a run of calls
unfoldable pub run : ℕ → List Call → List ℕ → List ℕ
run w [] t = t
run w (c ∷ cs) t = run w cs (after w c t)

-- the orders accepted since the latest start-up or load, where os were before the run
unfoldable pub orders : ℕ → List Call → List ℕ → List Order → List Order
orders w [] t os = os
orders w (c ∷ cs) t os = orders w cs (after w c t) (kept w c t os ++ accepted w c t)
