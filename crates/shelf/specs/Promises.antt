-- What is promised, for every row width w: of document 01's shelf, w = 16, and of the small shelf, w = 1. The proofs are in proofs/: Answers.antt
-- (Refusals, TurnedDown), Exactly.antt (ExactlyOne), Worked.antt (Cases, whose rows are in Cases.antt, and LaterToo), Histories.antt (History,
-- BothWays, NoOpen, NoBroadcast, NoDiscover), WidePorts.antt (ToldPermitted, ToldOnce, EachPortTold, NoReturn, LeavesPort), Apart.antt (AllHeld,
-- NoOpenApart, NoBroadcastApart, NoDiscoverApart), Outside.antt (NoGroupNoAnswer, CarriedUnread, Skipped), Learned.antt (LearnsNothingElse, DiscoverKeeps) and Shut.antt
-- (Counted, Supervisor, ShutOut). Quotes are of the three demands, docs/PROMISES.md, of document 01 and of document 02.
use Rattle.std.specs.Prelude.{◌≡◌, Bool, true, false, Option, Some, Ok, ◌⊎◌, List, [], ◌∷◌, ◌++◌, ℕ, ◌*◌, ◌%◌, ◌≤◌, ◌<◌, eqb, length, get_or, take, drop}
use Rattle.wire.specs.declared.PhyNumber.{PhyNumber}
use Rattle.wire.specs.declared.ZoneGroup.{ZoneGroup}
use Rattle.wire.specs.PhySet.{member, phys_in}
use Rattle.permit.specs.Permission.{groups, table_size, permissions_sized, P, reaches}
use Rattle.permit.specs.History.{Zone, latest, Says}
use Rattle.tables.specs.Outcome.{Answer, refusal, answer, Out, out}
use Rattle.tables.specs.Phys.{phy_record, phy_count, phys_sized, phy_group, participating, ready, empty_set}
use Rattle.tables.specs.Ports.{same_port}
use Rattle.tables.specs.Routes.{route_record}
use Rattle.links.specs.Links.{linked_as}
use Rattle.election.specs.Election.{elected_as, candidates, elected, Greatest}
use Rattle.searches.specs.declared.Destination.{Destination}
use Rattle.opens.specs.declared.Opened.TheVariants.{Forward}
use Rattle.searches.specs.Search.{search}
use Rattle.opens.specs.Open.{opened_as, open_source, open_out}
use Rattle.told_set.specs.ToldSet.{permitted}
use Rattle.requests.specs.Requests.{smp_source, source_reaches}
use Rattle.broadcasts.specs.Broadcasts.{told_as, frame_source, primitive_out, broadcast_out}
use Rattle.discover.specs.declared.Changes.{Changes}
use Rattle.discover.specs.Discover.{length_said, ignores_groups, asked_phy}
use Rattle.rules.specs.Rules.{function_of}
use Rattle.smp.specs.Smp.{answered_as}
use Rattle.imports.specs.Import.{imported_as}
use Rattle.exports.specs.Export.{exported_as}
use Rattle.file_trailer.specs.Answers.{saved_as, loaded_as}
use Rattle.shelf.specs.Calls.{Call, start_up, leaving, opening, primitive, broadcast_frame, smp, import_sheet, outcome_of, handed_in, answer_of, after, run, orders}

-- ---- Answers

-- "a numbered refusal changes no lent byte": of every call, whatever it is handed
abbrev pub Refusals : Type 0
Refusals = (w : ℕ) (c : Call) (t : List ℕ) (n : ℕ) (bs : List (List ℕ)) → outcome_of w c t ≡ out (refusal n) bs → bs ≡ handed_in c t

-- "An SMP request turned down by a function result writes only its four response bytes and a phy set of zeros."
abbrev pub TurnedDown : Type 0
TurnedDown =
    (w : ℕ) (phys t : List ℕ) (phy carried : ℕ) (changes : Changes) (request response set : List ℕ) (result written told : ℕ) (bs : List (List ℕ))
    → outcome_of w (smp phys phy carried changes request response set) t ≡ out (answer (result ∷ written ∷ told ∷ [])) bs → (result ≡ 0 → ⊥)
    → (written ≡ 4) × (told ≡ 0)
    × (bs ≡ phys ∷ t ∷ ((0x41 ∷ function_of request ∷ result ∷ 0 ∷ []) ++ drop 4 response) ∷ (empty_set ++ drop 16 set) ∷ [])

-- ---- Exactly one

-- an answer, told in document 01's numbers by `tells`: two answers, with their buffers, that meet a contract
-- `out (tells r) buffers ≡ o` are equal
abbrev pub One : {A : Type 0} → (A → Answer) → Type 0
One {A} tells = (r q : A) (xs ys : List (List ℕ)) (o : Out) → out (tells r) xs ≡ o → out (tells q) ys ≡ o → (r ≡ q) × (xs ≡ ys)

-- of start_up, leaving and identify; elect; open; primitive and broadcast_frame; smp; import_sheet; export_sheet; both saves; both loads
abbrev pub ExactlyOne : Type 0
ExactlyOne = One linked_as × One elected_as × One opened_as × One told_as × One answered_as × One imported_as × One exported_as × One saved_as × One loaded_as

-- ---- History

-- "From start-up, .. after any run of calls": start-up of any table of its size, and then any calls, further start-ups among them
abbrev pub History : Type 0
History = (w : ℕ) (t : List ℕ) (cs : List Call) → length t ≡ table_size w → Says w (run w (start_up ∷ cs) t) (orders w (start_up ∷ cs) t [])

-- "permission is mutual": of any two groups, whether the table holds them or not
abbrev pub BothWays : Type 0
BothWays =
    (w : ℕ) (t : List ℕ) (cs : List Call) → length t ≡ table_size w
    → (a b : ℕ) → reaches w (run w (start_up ∷ cs) t) a b ≡ reaches w (run w (start_up ∷ cs) t) b a

-- ---- Isolation: "So without one", at any point of any run, where the latest order naming a and b, if any, did not switch them on

-- "no OPEN from a is forwarded to destination group b"
abbrev pub NoOpen : Type 0
NoOpen =
    (w : ℕ) (t : List ℕ) (cs : List Call) → length t ≡ table_size w
    → (phys routes : List ℕ) (phy : ℕ) (frame buffer : List ℕ) (d : Destination) → search phys routes frame ≡ Some d
    → Zone w (open_source phys phy frame) → Zone w d.group.0
    → latest (orders w (start_up ∷ cs) t []) (open_source phys phy frame) d.group.0 false ≡ false
    → (q : PhyNumber) → answer_of (open_out w phys routes (run w (start_up ∷ cs) t) phy frame buffer) ≡ opened_as (Ok (Forward q)) → ⊥

-- "no incoming broadcast from a goes to a phy of b": buffer 0 of both calls is the phy set
abbrev pub NoBroadcast : Type 0
NoBroadcast =
    (w : ℕ) (t : List ℕ) (cs : List Call) → length t ≡ table_size w
    → (phys : List ℕ) (phy : ℕ) (arrived set frame : List ℕ) (number source i : ℕ) → i < 128 → Zone w source → Zone w (phy_group phys i)
    → latest (orders w (start_up ∷ cs) t []) source (phy_group phys i) false ≡ false
    → (v : List ℕ) (bs : List (List ℕ))
    → ((source ≡ phy_group phys phy) × (primitive_out w phys (run w (start_up ∷ cs) t) phy number set frame ≡ out (answer v) bs))
    ⊎ ((source ≡ frame_source arrived) × (broadcast_out w phys (run w (start_up ∷ cs) t) phy arrived set frame ≡ out (answer v) bs))
    → member (get_or bs 0 []) i ≡ false

-- a DISCOVER of the form that document 02 asks for, with the ignore bit zero, from the source group a, for a phy of group b
pub record Discovers (phys : List ℕ) (phy carried : ℕ) (request : List ℕ) (a b : ℕ) : Type 0 where
  pub function : function_of request ≡ 0x10
  pub whole : length request ≡ 12
  pub said : length_said request ≡ true
  pub heeds : ignores_groups request ≡ false
  pub there : asked_phy request < phy_count phys
  pub from : smp_source phys phy carried ≡ Some (record { 0 = a })
  pub for : phy_group phys (asked_phy request) ≡ b

-- "PHY VACANT" and nothing else: result 16h, four bytes, nobody told; and the four buffers, of which both tables stay
abbrev pub Vacant : List ℕ → List ℕ → List ℕ → List ℕ → List ℕ → List (List ℕ) → Type 0
Vacant phys t response set v bs =
    (v ≡ 0x16 ∷ 4 ∷ 0 ∷ []) × (bs ≡ phys ∷ t ∷ ((0x41 ∷ 0x10 ∷ 0x16 ∷ 0 ∷ []) ++ drop 4 response) ∷ (empty_set ++ drop 16 set) ∷ [])

-- and no DISCOVER with the ignore bit zero from a shows a phy of b
abbrev pub NoDiscover : Type 0
NoDiscover =
    (w : ℕ) (t : List ℕ) (cs : List Call) → length t ≡ table_size w
    → (phys : List ℕ) (phy carried : ℕ) (changes : Changes) (request response set : List ℕ) (a b : ℕ) → Discovers phys phy carried request a b
    → Zone w a → Zone w b → latest (orders w (start_up ∷ cs) t []) a b false ≡ false
    → (v : List ℕ) (bs : List (List ℕ)) → outcome_of w (smp phys phy carried changes request response set) (run w (start_up ∷ cs) t) ≡ out (answer v) bs
    → Vacant phys (run w (start_up ∷ cs) t) response set v bs

-- ---- Ports: "A port is from now on all ready phys with the same attached address"

-- a primitive, or a broadcast frame, arrived on a phy and was not refused: the source group, and the phy set that the call left (its buffer 0)
pub data Relayed : ℕ → List ℕ → List ℕ → ℕ → ℕ → List ℕ → Type 0 where
  a_primitive : (w : ℕ) (phys t : List ℕ) (phy number : ℕ) (set frame v : List ℕ) (bs : List (List ℕ))
      → outcome_of w (primitive phys phy number set frame) t ≡ out (answer v) bs → Relayed w phys t phy (phy_group phys phy) (get_or bs 0 [])
  a_frame : (w : ℕ) (phys t : List ℕ) (phy : ℕ) (arrived set frame v : List ℕ) (bs : List (List ℕ))
      → outcome_of w (broadcast_frame phys phy arrived set frame) t ≡ out (answer v) bs → Relayed w phys t phy (frame_source arrived) (get_or bs 0 [])

-- every told phy is permitted (ready, and the source group may reach its group) and outside the arriving phy's port
abbrev pub ToldPermitted : Type 0
ToldPermitted =
    (w : ℕ) (phys t : List ℕ) (phy source : ℕ) (set : List ℕ) → Relayed w phys t phy source set
    → (i : ℕ) → i < 128 → member set i ≡ true → (permitted w phys t source i ≡ true) × (same_port phys phy i ≡ false)

-- no two told phys are in one port
abbrev pub ToldOnce : Type 0
ToldOnce =
    (w : ℕ) (phys t : List ℕ) (phy source : ℕ) (set : List ℕ) → Relayed w phys t phy source set
    → (i j : ℕ) → i < 128 → j < 128 → member set i ≡ true → member set j ≡ true → same_port phys i j ≡ true → i ≡ j

-- phy i's port has a phy in the set, and it is the port's lowest permitted one
pub record LowestTold (w : ℕ) (phys t : List ℕ) (source : ℕ) (set : List ℕ) (i : ℕ) : Type 0 where
  pub at : ℕ
  pub told : member set at ≡ true
  pub port : same_port phys at i ≡ true
  pub lowest : (k : ℕ) → permitted w phys t source k ≡ true → same_port phys at k ≡ true → at ≤ k

-- every other port that has a permitted phy has one told, its lowest
abbrev pub EachPortTold : Type 0
EachPortTold =
    (w : ℕ) (phys t : List ℕ) (phy source : ℕ) (set : List ℕ) → Relayed w phys t phy source set
    → (i : ℕ) → i < 128 → permitted w phys t source i ≡ true → same_port phys phy i ≡ false → LowestTold w phys t source set i

-- a forwarded OPEN never goes to a phy of the arriving phy's port
abbrev pub NoReturn : Type 0
NoReturn =
    (w : ℕ) (phys routes t : List ℕ) (phy : ℕ) (frame buffer : List ℕ) (q : PhyNumber)
    → answer_of (outcome_of w (opening phys routes phy frame buffer) t) ≡ opened_as (Ok (Forward q)) → same_port phys phy q.0 ≡ false

-- a phy that leaves ready leaves its port: it is by itself in the phy table that the call leaves (its buffer 0)
abbrev pub LeavesPort : Type 0
LeavesPort =
    (w : ℕ) (phys t : List ℕ) (phy : ℕ) (v : List ℕ) (bs : List (List ℕ)) → outcome_of w (leaving phys phy) t ≡ out (answer v) bs
    → (j : ℕ) → same_port (get_or bs 0 []) phy j ≡ true → phy ≡ j

-- ---- Groups that the table does not hold: "Groups 8 to 127 reach only group 1 and are reached only by it"

-- document 01's table holds every group: there it is P
abbrev pub AllHeld : Type 0
AllHeld = (t : List ℕ) (a b : ℕ) → a < 128 → b < 128 → reaches 16 t a b ≡ P 16 t a b

-- two groups of which the table does not hold both, and neither is group 1
abbrev pub Apart : ℕ → ℕ → ℕ → Type 0
Apart w a b = ((groups w ≤ a) ⊎ (groups w ≤ b)) × (a ≡ 1 → ⊥) × (b ≡ 1 → ⊥)

-- no OPEN is forwarded between them, whatever the table holds and whatever was ordered
abbrev pub NoOpenApart : Type 0
NoOpenApart =
    (w : ℕ) (phys routes t : List ℕ) (phy : ℕ) (frame buffer : List ℕ) (d : Destination) → search phys routes frame ≡ Some d
    → Apart w (open_source phys phy frame) d.group.0
    → (q : PhyNumber) → answer_of (outcome_of w (opening phys routes phy frame buffer) t) ≡ opened_as (Ok (Forward q)) → ⊥

-- and no incoming broadcast from the one goes to a phy of the other
abbrev pub NoBroadcastApart : Type 0
NoBroadcastApart =
    (w : ℕ) (phys t : List ℕ) (phy source : ℕ) (set : List ℕ) → Relayed w phys t phy source set
    → (i : ℕ) → i < 128 → Apart w source (phy_group phys i) → member set i ≡ false

-- and no DISCOVER with the ignore bit zero from the one shows a phy of the other
abbrev pub NoDiscoverApart : Type 0
NoDiscoverApart =
    (w : ℕ) (phys t : List ℕ) (phy carried : ℕ) (changes : Changes) (request response set : List ℕ) (a b : ℕ) → Discovers phys phy carried request a b
    → Apart w a b
    → (v : List ℕ) (bs : List (List ℕ)) → outcome_of w (smp phys phy carried changes request response set) t ≡ out (answer v) bs
    → Vacant phys t response set v bs

-- ---- Groups from outside: "a byte above 127 is no group, and every caller must act on it"

-- "such a carried byte or frame byte, on a participating phy, is refusal 5": a call that carries one is not answered
abbrev pub NoGroupNoAnswer : Type 0
NoGroupNoAnswer =
    ((w : ℕ) (phys t : List ℕ) (phy carried : ℕ) (changes : Changes) (request response set v : List ℕ) (bs : List (List ℕ)) → participating phys phy ≡ true
    → outcome_of w (smp phys phy carried changes request response set) t ≡ out (answer v) bs → carried ≤ 127)
    × ((w : ℕ) (phys t : List ℕ) (phy : ℕ) (arrived set frame v : List ℕ) (bs : List (List ℕ))
    → outcome_of w (broadcast_frame phys phy arrived set frame) t ≡ out (answer v) bs → frame_source arrived ≤ 127)
    × ((w : ℕ) (phys t : List ℕ) (phy carried : ℕ) (sheet v : List ℕ) (bs : List (List ℕ)) → participating phys phy ≡ true
    → outcome_of w (import_sheet phys phy carried sheet) t ≡ out (answer v) bs → carried ≤ 127)

-- on a phy that is not participating the byte carried for SMP, or for an import, decides nothing, whatever it is
abbrev pub CarriedUnread : Type 0
CarriedUnread =
    ((w : ℕ) (phys t : List ℕ) (phy carried other : ℕ) (changes : Changes) (request response set : List ℕ) → participating phys phy ≡ false
    → outcome_of w (smp phys phy carried changes request response set) t ≡ outcome_of w (smp phys phy other changes request response set) t)
    × ((w : ℕ) (phys t : List ℕ) (phy carried other : ℕ) (sheet : List ℕ) → participating phys phy ≡ false
    → outcome_of w (import_sheet phys phy carried sheet) t ≡ outcome_of w (import_sheet phys phy other sheet) t)

-- "Such a route record is skipped in searches and in the election.": the tables give what they give without it
abbrev pub Skipped : Type 0
Skipped =
    (phys frame before skipped behind : List ℕ) → length before % route_record ≡ 0 → length skipped ≡ route_record → 127 < get_or skipped 9 0
    → (search phys (before ++ skipped ++ behind) frame ≡ search phys (before ++ behind) frame)
    × (elected phys (before ++ skipped ++ behind) ≡ elected phys (before ++ behind))

-- ---- What a member can learn

-- a shelf, and what an SMP call on it is handed beside the request
pub record Shelf : Type 0 where
  pub phys : List ℕ
  pub permissions : List ℕ
  pub changes : Changes
  pub phy : ℕ
  pub carried : ℕ
  pub response : List ℕ
  pub set : List ℕ

-- the caller's source group
abbrev pub source_of : Shelf → Option ZoneGroup
source_of s = smp_source s.phys s.phy s.carried

-- "permitted to that group": P(source group, phy i's group), whether phy i is ready or not
abbrev pub permitted_to : ℕ → Shelf → ℕ → Bool
permitted_to w s i = source_reaches w s.permissions (source_of s) (phy_group s.phys i)

-- phy i's record, all its bytes
abbrev pub record_of : Shelf → ℕ → List ℕ
record_of s i = take phy_record (drop (phy_record * i) s.phys)

-- a premise of `Alike`, by name: the worked pairs of crate `learned` break one at a time, the theorem none
pub data Premise : Type 0 where
  none : Premise
  sizes : Premise
  counts : Premise
  buffers : Premise
  readiness : Premise
  permission : Premise
  records : Premise

abbrev pub place_of : Premise → ℕ
place_of none = 0
place_of sizes = 1
place_of counts = 2
place_of buffers = 3
place_of readiness = 4
place_of permission = 5
place_of records = 6

-- that a premise does not hold, where it is the broken one; else that it does
abbrev pub Broken : Bool → Type 0 → Type 0
Broken true A = A → ⊥
Broken false A = A

abbrev pub Unless : Premise → Premise → Type 0 → Type 0
Unless broken premise A = Broken (eqb (place_of broken) (place_of premise)) A

-- request 04's premises on two shelves, a field for each of its words. Where `broken` is none each field says what stands in its brackets.
pub record Alike (broken : Premise) (w : ℕ) (a b : Shelf) : Type 0 where
  -- "take two shelves with right .. lent sizes". The proof does not use it: a wrong size is refused on both.
  pub right_sizes : ((phys_sized a.phys ≡ true) × (permissions_sized w a.permissions ≡ true))
      × ((phys_sized b.phys ≡ true) × (permissions_sized w b.permissions ≡ true))
  -- "and equal lent sizes"
  pub equal_sizes : Unless broken sizes ((length a.phys ≡ length b.phys) × (length a.permissions ≡ length b.permissions))
  -- "the same change counts handed in"
  pub same_counts : Unless broken counts (a.changes ≡ b.changes)
  -- the same buffers lent for response and set, in size and in bytes
  pub equal_buffers : Unless broken buffers ((a.response ≡ b.response) × (a.set ≡ b.set))
  -- "and one caller on the same phy". The proof uses it for refusal 2 alone.
  pub same_phy : a.phy ≡ b.phy
  -- "ready in both"
  pub ready_in_both : Unless broken readiness ((ready a.phys a.phy ≡ true) × (ready b.phys b.phy ≡ true))
  -- "participating in both or neither", "with the same carried byte". The proof uses neither: the same source group says all of them that counts.
  pub participating_alike : participating a.phys a.phy ≡ participating b.phys b.phy
  pub same_carried : a.carried ≡ b.carried
  -- "and source group". The proof uses that both are groups or neither is: each shelf's permitted phys go by its own.
  pub same_source : source_of a ≡ source_of b
  -- "If the same phys are permitted to that group in both": phy i in the one exactly if it is in the other
  pub same_permitted : Unless broken permission ((i : ℕ) → i < phy_count a.phys → permitted_to w a i ≡ permitted_to w b i)
  -- "and those phys' records are equal", byte for byte, also those of phys that are not ready
  pub equal_records : Unless broken records ((i : ℕ) → i < phy_count a.phys → permitted_to w a i ≡ true → record_of a i ≡ record_of b i)

-- an outcome as the caller sees it: the answer, and the bytes of response and set (an SMP call's buffers 2 and 3)
abbrev pub seen_of : Out → Out
seen_of (out a bs) = out a (get_or bs 2 [] ∷ get_or bs 3 [] ∷ [])

-- what a request gets the caller
abbrev pub gets : ℕ → Shelf → List ℕ → Out
gets w s request = seen_of (outcome_of w (smp s.phys s.phy s.carried s.changes request s.response s.set) s.permissions)

-- "every DISCOVER with the ignore bit zero gets the same bytes. All else in them may differ.": every request with function 10h, of any length and
-- content; one too short to have the ignore bit has it zero
abbrev pub LearnsNothingElse : Type 0
LearnsNothingElse =
    (w : ℕ) (a b : Shelf) → Alike none w a b → (request : List ℕ) → function_of request ≡ 0x10 → ignores_groups request ≡ false
    → gets w a request ≡ gets w b request

-- so asking often tells no more than asking once: whatever a request with function 10h is answered, both tables (buffers 0 and 1) are as they were
abbrev pub DiscoverKeeps : Type 0
DiscoverKeeps =
    (w : ℕ) (phys t : List ℕ) (phy carried : ℕ) (changes : Changes) (request response set : List ℕ) → function_of request ≡ 0x10
    → (a : Answer) (bs : List (List ℕ)) → outcome_of w (smp phys phy carried changes request response set) t ≡ out a bs
    → (get_or bs 0 [] ≡ phys) × (get_or bs 1 [] ≡ t)

-- ---- The count

-- "the count is the number of ones in the sixteen bytes": of the phy set that the same call leaves
abbrev pub Counted : Type 0
Counted =
    ((w : ℕ) (phys t : List ℕ) (phy number : ℕ) (set frame : List ℕ) (n : ℕ) (bs : List (List ℕ))
    → outcome_of w (primitive phys phy number set frame) t ≡ out (answer (n ∷ [])) bs → n ≡ phys_in (get_or bs 0 []))
    × ((w : ℕ) (phys t : List ℕ) (phy : ℕ) (arrived set frame : List ℕ) (n : ℕ) (bs : List (List ℕ))
    → outcome_of w (broadcast_frame phys phy arrived set frame) t ≡ out (answer (n ∷ [])) bs → n ≡ phys_in (get_or bs 0 []))
    × ((w : ℕ) (phys t : List ℕ) (phy carried : ℕ) (changes : Changes) (request response set : List ℕ) (result written n : ℕ) (bs : List (List ℕ))
    → outcome_of w (smp phys phy carried changes request response set) t ≡ out (answer (result ∷ written ∷ n ∷ [])) bs → n ≡ phys_in (get_or bs 3 []))

-- ---- The supervisor: "higher priority wins, then the greater address"
abbrev pub Supervisor : Type 0
Supervisor = (phys routes : List ℕ) → Greatest (elected phys routes) (candidates phys routes)

-- ---- Shut out by name: what no program that meets the contracts does

-- an answer is a numbered refusal
abbrev pub refused : Answer → Bool
refused (refusal n) = true
refused (answer values) = false

-- refusing every call; one answer for all; changing nothing
abbrev pub ShutOut : ℕ → Type 0
ShutOut w =
    (((c : Call) (t : List ℕ) → refused (answer_of (outcome_of w c t)) ≡ true) → ⊥)
    × ((a : Answer) → ((phys t : List ℕ) (phy carried : ℕ) (changes : Changes) (request response set : List ℕ)
    → answer_of (outcome_of w (smp phys phy carried changes request response set) t) ≡ a) → ⊥)
    × (((c : Call) (t : List ℕ) → after w c t ≡ t) → ⊥)
