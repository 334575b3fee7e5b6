-- Demand 2: a session of the entries is one of the rules (Sessions), and the rules' theorems speak of each call. New here: the events' array decodes
-- to the rules' events, which fit their fields.
use Prim.Native.Nat.{ℕ, ◌≤◌, ◌<◌}
use native.Mathlib.Omega.{arith}
use mathlib.Core.Bool.{Bool, true, false, not, cond}
use mathlib.Core.List.{List, [], ◌∷◌, ◌++◌, map}
use mathlib.Core.Path.{◌≡◌, refl, sym, ap, subst, ◌∙◌}
use lib.Dec.{T, eqb}
use lib.ListN.{length, get_or, take, replicate, length-map}
use borrow.Author.Tests.{eq-eqb}
use Rattle.common.specs.Counters.{width}
use Rattle.common.specs.Tests.{all, pairs}
use Rattle.common.proofs.Blank.{blank-bytes}
use Rattle.common.proofs.Bools.{and_l, and_r, and_i, by_cond}
use Rattle.common.proofs.Order.{eq→eqb}
use Rattle.xdr.specs.Be.{Bytes}
use Rattle.xdr.specs.Array.{array, array_size}
use Rattle.xdr.proofs.Arrays.{array-put, put-array-other, put-array-length}
use Rattle.table.specs.Table.{Table, empty, handle_of, max_records}
use Rattle.table.specs.Sound.{sound}
use Rattle.table.specs.Bytes.{table_size, table_of, sound_table_bytes}
use Rattle.table.proofs.Zeros.{bytes-sound, zeros-empty, zeros-sound}
use Rattle.locks.specs.declared.Item.{Item}
use Rattle.locks.specs.declared.Message.{Message}
use Rattle.locks.specs.declared.Message.TheVariants.{Request, Acknowledge, Downgrade, Release}
use Rattle.locks.specs.Settle.{Event}
use Rattle.locks.specs.Refusals.{refusal}
use Rattle.locks.specs.Serve.{Outcome, serve}
use Rattle.locks.specs.Events.{event_layout, event_fields, events_size, events_over}
use Rattle.locks.specs.Session.{single, table_after, events, numbers}
use Rattle.locks.specs.List.{max_items, item_at, request_of, answered_item, serve_list, max_list_events, list_events_size}
use Rattle.locks.proofs.Fitting.{FitEvents, serve-fit}
use Rattle.locks.proofs.Lists.{list-events, list-item, list-long, list-fit, list-few, after-sound}
use Rattle.locks.proofs.Sessions.{session-numbers}
use Rattle.locks.proofs.Handles.{session-handles, session-once}
use Rattle.locks.proofs.Events.{Once, serve-once, handles}
use Rattle.serve.specs.declared.Answer.{Answer}
use Rattle.serve.specs.Leaves.{Leaves}
use Rattle.message.specs.Messages.{outcome, Serves}
use Rattle.list.specs.Lists.{accepted_list, list_outcome, ServesList}
use Rattle.promises.specs.Session.{Session, done, call, list}
use Rattle.promises.specs.Reasoned.{Reasoned}
use Rattle.promises.specs.Demand2.{Told, Called, CalledList, Goes, GoesList, Followed, Demand2}
use Rattle.promises.proofs.Determined.{of-message, of-list}
use Rattle.promises.proofs.Reached.{buffer, buffer-long, list-buffer, list-buffer-long}
use Rattle.promises.proofs.Outcomes.{served-hit}
use Rattle.promises.proofs.Lists.{list-is, items-are}
use Rattle.promises.proofs.Sessions.{Follows, outcome-is, follows, list-follows, session-follows, session-events}
use Rattle.promises.proofs.Settled.{serve-reasoned}

-- no handle twice, so no record twice
apart : (e : Event) (es : List Event) → T (all (λ d. not (eqb (handle_of e.lock) d)) (handles es)) → T (all (λ y. not (eqb (handle_of e.lock) (handle_of y.lock))) es)
apart e [] t = tt
apart e (f ∷ fs) t =
    let p : ℕ → Bool = λ d. not (eqb (handle_of e.lock) d) in
    and_i (p (handle_of f.lock)) (all (λ y. p (handle_of y.lock)) fs) (and_l (p (handle_of f.lock)) (all p (handles fs)) t) (apart e fs (and_r (p (handle_of f.lock)) (all p (handles fs)) t))

distinct : (es : List Event) → T (pairs (λ a d. not (eqb a d)) (handles es)) → T (pairs (λ x y. not (eqb (handle_of x.lock) (handle_of y.lock))) es)
distinct [] t = tt
distinct (e ∷ es) t =
    let p : Bool = all (λ d. not (eqb (handle_of e.lock) d)) (handles es) in
    let k : Bool = pairs (λ a d. not (eqb a d)) (handles es) in
    and_i (all (λ y. not (eqb (handle_of e.lock) (handle_of y.lock))) es) (pairs (λ x y. not (eqb (handle_of x.lock) (handle_of y.lock))) es) (apart e es (and_l p k t)) (distinct es (and_r p k t))

-- What a call leaves in the event buffer, by its outcome o of at most n events, for which there is room
module _ (o : Outcome) (n : ℕ) (t b : List ℕ) (r : Answer) (u c : List ℕ) (K : Leaves o t b r u c) (few : length o.events ≤ n) where
  long : length (map event_fields o.events) ≡ length o.events
  long = length-map o.events event_fields

  decoded : n ≤ max_list_events → array_size n (event_layout width) ≤ length b → FitEvents o.events → o.refusal ≡ 0 → array (event_layout width) c 0 ≡ map event_fields o.events
  unfolding events_over
  decoded m h f e =
      let l = long in
      ap (λ (x : List ℕ). array (event_layout width) x 0) (K.events ∙ ap (λ (z : Bool). cond z (events_over width b o.events) b) (eq-eqb o.refusal 0 e))
      ∙ array-put (event_layout width) b 0 (map event_fields o.events) (omega arith) (omega arith) f

  beyond : (k : ℕ) → array_size (length o.events) (event_layout width) ≤ k → get_or c k 0 ≡ get_or b k 0
  unfolding events_over
  beyond k g =
      ap (λ (x : List ℕ). get_or x k 0) K.events
      ∙ by_cond (λ (x : List ℕ). get_or x k 0 ≡ get_or b k 0) (eqb o.refusal 0) (events_over width b o.events) b
      (λ e. put-array-other (event_layout width) b 0 (map event_fields o.events) k (λ j p d. let l = long in omega arith)) (λ e. refl)

  buffer-kept : length c ≡ length b
  unfolding events_over
  buffer-kept =
      ap length K.events
      ∙ by_cond (λ (x : List ℕ). length x ≡ length b) (eqb o.refusal 0) (events_over width b o.events) b
      (λ e. put-array-length (event_layout width) b 0 (map event_fields o.events)) (λ e. refl)

tells : (X : Table) (m : Message) → T (sound X) → Told (serve X m).events
tells X m s =
    let O : Once (serve X m).events = serve-once X m s in
    record { once = distinct (serve X m).events O.one_each; few = O.at_most; order = (O.grants, O.revoked, O.are, O.grants-rise, O.revoked-rise) }

reasons : (X : Table) (m : Message) → T (sound X) → (serve X m).refusal ≡ 0 → Reasoned X m
reasons X m s e = serve-reasoned X m s (eq→eqb (refusal X m) 0 (sym (served-hit X m) ∙ e))

-- One call on sound bytes, which say the table X
module _ (m : Message) (t b : List ℕ) (r : Answer) (u c : List ℕ) (s : sound_table_bytes t ≡ true) (h : events_size width ≤ length b) (L : Serves m t b r u c) where
  pub called : Called (table_of width t) m b r u c
  called =
      let X : Table = table_of width t in
      let q : T (sound X) = bytes-sound t s in
      let K : Leaves (serve X m) t b r u c = subst (λ (o : Outcome). Leaves o t b r u c) (outcome-is m t b s h) L in
      let O : Once (serve X m).events = serve-once X m q in
      let F : Follows (serve X m).table u = follows m t b r u c s h L in
      record {
        answer = K.answer;
        table = F.says;
        events = decoded (serve X m) max_records t b r u c K O.at_most (omega arith) h (serve-fit X m q);
        beyond = beyond (serve X m) max_records t b r u c K O.at_most;
        long = buffer-kept (serve X m) max_records t b r u c K O.at_most;
        sound = F.sound;
        told = tells X m q;
        reasoned = reasons X m q;
      }

-- One list on sound bytes
module _ (t : List ℕ) (s : sound_table_bytes t ≡ true) (xs : List Item) (b : List ℕ) (r : Answer) (ys : List Item) (u c : List ℕ) (small : length xs ≤ max_items) (h : list_events_size width ≤ length b)
    (L : ServesList xs t b r ys u c) where
  abbrev X : Table
  X = table_of width t

  abbrev o : Outcome
  o = accepted_list (serve_list X xs)

  q : T (sound X)
  q = bytes-sound t s

  K : Leaves o t b r u c
  K = subst (λ (x : Outcome). Leaves x t b r u c) (list-is xs t b s small h) L.call

  items : ys ≡ (serve_list X xs).items
  items = L.items ∙ items-are xs t b s small h

  -- the item at place k is answered as its single request is
  its : (k : ℕ) → k < length xs → item_at ys k ≡ answered_item (item_at xs k) (serve (table_after X (map request_of (take k xs))) (request_of (item_at xs k)))
  its k p = ap (λ (l : List Item). item_at l k) items ∙ list-item X xs k p

  pub called-list : CalledList (table_of width t) xs b r ys u c
  called-list =
      let F = list-follows xs t b r ys u c s small h L in
      let few = list-few X xs q in
      let same : (serve_list X xs).events ≡ events X (map request_of xs) = list-events X xs in
      record {
        answer = K.answer ∙ ap {B = Answer} (λ (es : List Event). record { refusal = 0; handle = 0; events = length es }) same;
        long-items = ap length items ∙ list-long X xs;
        each = its;
        table = F.says;
        events = decoded o max_list_events t b r u c K few (omega arith) h (list-fit X xs q) refl ∙ ap (map event_fields) same;
        beyond = subst (λ (es : List Event). (k : ℕ) → array_size (length es) (event_layout width) ≤ k → get_or c k 0 ≡ get_or b k 0) same (beyond o max_list_events t b r u c K few);
        long = buffer-kept o max_list_events t b r u c K few;
        sound = F.sound;
        few = subst (λ (es : List Event). length es ≤ max_list_events) same few;
        told = λ k p.
            tells (table_after X (map request_of (take k xs))) (request_of (item_at xs k)) (after-sound X (map request_of (take k xs)) q);
        reasoned = λ k p e.
            reasons (table_after X (map request_of (take k xs))) (request_of (item_at xs k)) (after-sound X (map request_of (take k xs)) q)
            (sym (ap (λ (i : Item). i.refusal) (its k p)) ∙ e);
      }

anywhere : (t : List ℕ) → sound_table_bytes t ≡ true → Goes t (table_of width t)
anywhere t s m b r u c h L = called m t b r u c s h L

follow : (ms : List Message) (es : List Event) (t : List ℕ) → Session (replicate (table_size width) 0) ms es t → Followed ms es t
follow ms es t S =
    let F = session-follows S zeros-sound in
    let zero = zeros-empty (table_size width) in
    let says : table_of width t ≡ table_after empty ms = F.says ∙ ap (λ (X : Table). table_after X ms) zero in
    let same : es ≡ events empty ms = session-events S zeros-sound ∙ ap (λ (X : Table). events X ms) zero in
    record {
      table = says;
      sound = F.sound;
      events = same;
      handles = session-handles ms;
      distinct = session-once ms;
      numbered = λ s. ap (numbers s) same ∙ session-numbers ms s;
      next = subst (Goes t) says (anywhere t F.sound);
      next-list = subst (GoesList t) says (called-list t F.sound);
    }

-- Demand 1 gives each message an outcome, whatever table the one before it left; a marked request comes in a list of one
Begins : List ℕ → List Message → Type 0
Begins t ms = (es : List Event) × (v : List ℕ) × Session t ms es v

one_more : (m : Message) (ms : List Message) (t : List ℕ) → Bytes t → ((u : List ℕ) → Bytes u → Begins u ms) → Begins t (m ∷ ms)
unfolding Begins
one_more m ms t h go = cases m
  where
    by_itself : (m : Message) → T (single m) → Begins t (m ∷ ms)
    by_itself m i =
        let P = of-message m t buffer h in
        let r = go P.some.table P.meets.1 in
        ((outcome m t buffer).events ++ r.0, r.1, call {b = buffer} i (let e = buffer-long in omega arith) P.meets.0 r.2)

    in-a-list : (x : Item) → Begins t (request_of x ∷ ms)
    in-a-list x =
        let P = of-list (x ∷ []) t list-buffer h in
        let r = go P.some.table P.meets.1 in
        ((list_outcome (x ∷ []) t list-buffer).events ++ r.0, r.1, list {b = list-buffer} {xs = x ∷ []} (omega arith) (let e = list-buffer-long in omega arith) P.meets.0 r.2)

    cases : (m : Message) → Begins t (m ∷ ms)
    cases (Request c s k f l true) = in-a-list (record { client = c; stripe = s; mode = k; first = f; last = l; refusal = 0; handle = 0; events = 0 })
    cases (Request c s k f l false) = by_itself (Request c s k f l false) tt
    cases (Acknowledge c k) = by_itself (Acknowledge c k) tt
    cases (Downgrade c k) = by_itself (Downgrade c k) tt
    cases (Release c k) = by_itself (Release c k) tt

sessions : (ms : List Message) (t : List ℕ) → Bytes t → Begins t ms
unfolding Begins
sessions [] t h = ([], t, done)
sessions (m ∷ ms) t h = one_more m ms t h (sessions ms)

pub demand2 : Demand2
unfolding Begins
demand2 = record {
  anywhere = anywhere;
  lists-anywhere = called-list;
  sessions = λ ms. sessions ms (replicate (table_size width) 0) (blank-bytes (table_size width));
  follow = follow;
}
