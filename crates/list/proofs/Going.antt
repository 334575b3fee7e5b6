-- Where the loop over the items stands, as plain values: what is done, and that what is left decides as the whole. No word of memory.
--     State        the place, the count of events, the items and bytes as they are, and the facts that hold there
--     begun, next, ended      the loop begins, goes on by an item, and ends.        item_room    the events of the next item have room
use Prim.Native.Nat.{ℕ, suc, ◌+◌, ◌≤◌, ◌<◌}
use native.Mathlib.Omega.{arith}
use native.Mathlib.Nat.{zero-add}
use native.Mathlib.Numerals.{add-one}
use mathlib.Core.List.{List, [], ◌∷◌, ◌++◌, map, append-nil, append_assoc}
use mathlib.Core.Path.{◌≡◌, refl, sym, ap, ap₂, subst, ◌∙◌}
use lib.ListN.{length, take, drop, set, length-set, length-map, length-append, drop_of_length-le}
use lib.Seq.{take-suc-set, drop-set-lt, drop-cons, append_snoc, take_all}
use Rattle.std.specs.Prelude.{Ok}
use Rattle.common.specs.Counters.{handle, width}
use Rattle.xdr.specs.Be.{put_be}
use Rattle.xdr.specs.Array.{put_elements, put_array}
use Rattle.xdr.proofs.Elements.{put-elements-length}
use Rattle.table.specs.Table.{Table}
use Rattle.table.specs.Bytes.{locks_of, table_of}
use Rattle.table.specs.Places.{count_of, Shape, Good}
use Rattle.table.proofs.Reading.{locks-length}
use Rattle.locks.specs.declared.Item.{Item}
use Rattle.locks.specs.Settle.{Event}
use Rattle.locks.specs.Serve.{Outcome}
use Rattle.locks.specs.Events.{event_layout, event_fields, events_over, Room}
use Rattle.locks.specs.List.{no_item, item_at, answered_item, Listed, before, serve_list}
use Rattle.locks.proofs.Lists.{list-few}
use Rattle.settle.specs.Posts.{put_events}
use Rattle.settle.proofs.Written.{events-then}
use Rattle.serve.specs.declared.Accepted.{Accepted}
use Rattle.serve.specs.declared.Answer.{Answer}
use Rattle.serve.specs.Posts.{answer_to}
use Rattle.list.specs.Lists.{list_outcome, list_items, ServesList}
use Rattle.list.specs.Posts.{outcome_of, ServesItem, Walks}
use Rattle.list.proofs.Judging.{Passed}
use Rattle.list.proofs.Serving.{own-count, item-good}

-- the items that are done and their events, in front of what is left
abbrev pub front : List Item → List Event → Listed → Listed
front ys es l = record { items = ys ++ l.items; table = l.table; events = es ++ l.events }

front-before : (ys : List Item) (es : List Event) (x : Item) (o : Outcome) (l : Listed) → front (ys ++ (answered_item x o ∷ [])) (es ++ o.events) l ≡ front ys es (before x o l)
front-before ys es x o l = λ j. record { items = append_snoc ys (answered_item x o) l.items j; table = l.table; events = append_assoc es o.events l.events j }

-- what is left of the items xs from place i on, on the table in t
abbrev pub left : List ℕ → List Item → ℕ → Listed
left t xs i = serve_list (table_of width t) (drop i xs)

-- the item at place i is the first that is left
at_first : (t : List ℕ) (xs : List Item) (i : ℕ) → i < length xs → left t xs i ≡ before (item_at xs i) (outcome_of t (item_at xs i)) (serve_list (outcome_of t (item_at xs i)).table (drop (suc i) xs))
unfolding serve_list
at_first t xs i l = rw (drop-cons xs i no_item l) refl

-- one item on
pub goes_on : (i k : ℕ) (xs : List Item) (t b : List ℕ) (r : Item) (s : ℕ) (u c : List ℕ) (es : List Event) → i < length xs → ServesItem k (item_at xs i) t b r s u c
    → front (take (i + 1) (set xs i r)) (es ++ (outcome_of t (item_at xs i)).events) (left u (set xs i r) (i + 1)) ≡ front (take i xs) es (left t xs i)
goes_on i k xs t b r s u c es l S =
    let x : Item = item_at xs i in
    let o : Outcome = outcome_of t x in
    let y : Item = answered_item x o in
    rw (S.item, S.table.says, add-one, take-suc-set xs i y l, drop-set-lt (suc i) xs i y (omega arith), at_first t xs i l)
    (front-before (take i xs) es x o (serve_list o.table (drop (suc i) xs)))

-- nothing is left
all_done : (i : ℕ) (xs : List Item) (t : List ℕ) (es : List Event) → length xs ≤ i → front (take i xs) es (left t xs i) ≡ record { items = xs; table = table_of width t; events = es }
unfolding serve_list
all_done i xs t es l = rw (take_all i xs l, drop_of_length-le xs l) (λ j. record { items = append-nil xs j; table = table_of width t; events = append-nil es j })

-- the items xs₀ are served on the table in t₀, behind k₀ events in b₀
module _ (k₀ : ℕ) (xs₀ : List Item) (t₀ b₀ : List ℕ) where
  abbrev pub whole : Listed
  whole = serve_list (table_of width t₀) xs₀

  pub record State (i k : ℕ) (xs : List Item) (ts bs : List ℕ) : Type 0 where
    pub sent : List Event
    pub room : Room (k₀ + length whole.events) b₀
    pub same-xs : length xs ≡ length xs₀
    pub same-bs : length bs ≡ length b₀
    pub good : Good (count_of ts) ts
    pub count : k ≡ k₀ + length sent
    pub bytes : bs ≡ put_events b₀ k₀ sent
    pub rest : front (take i xs) sent (left ts xs i) ≡ whole

  pub begun : (n : ℕ) → Good n t₀ → Room (k₀ + length whole.events) b₀ → State 0 k₀ xs₀ t₀ b₀
  unfolding put_elements
  begun n G R = record {
    sent = [];
    room = R;
    same-xs = refl;
    same-bs = refl;
    good = record { shape = own-count n t₀ G.shape; sounds = G.sounds };
    count = omega arith;
    bytes = refl;
    rest = refl;
  }

  module _ (i k : ℕ) (xs : List Item) (ts bs : List ℕ) (s : State i k xs ts bs) where
    -- the outcome of the item that is next
    abbrev pub its : Outcome
    its = outcome_of ts (item_at xs i)

    -- the item has room for its events
    pub item_room : i < length xs → Room (k + length its.events) bs
    item_room l =
        let later : List Event = (serve_list its.table (drop (suc i) xs)).events in
        let f : (left ts xs i).events ≡ its.events ++ later = ap (λ (w : Listed). w.events) (at_first ts xs i l) in
        let e : length (s.sent ++ (its.events ++ later)) ≡ length whole.events
        = ap (λ (es : List Event). length (s.sent ++ es)) (sym f) ∙ ap (λ (w : Listed). length w.events) s.rest in
        let c = s.count in
        let r = s.room in
        let b = s.same-bs in
        omega (arith, length-append s.sent (its.events ++ later), length-append its.events later)

    abbrev pub next : i < length xs → (r : Item) (m : ℕ) (u c : List ℕ) → ServesItem k (item_at xs i) ts bs r m u c → State (i + 1) m (set xs i r) u c
    next l r m u c S = record {
      sent = s.sent ++ its.events;
      room = s.room;
      same-xs = length-set xs i r ∙ s.same-xs;
      same-bs = ap (λ (x : List ℕ). length x) S.events ∙ put-elements-length (event_layout width) bs 0 k (map event_fields its.events) ∙ s.same-bs;
      good = item-good ts u (item_at xs i) s.good S.table;
      count = counted m S.count;
      bytes = S.events ∙ ap₂ (λ (x : List ℕ) (j : ℕ). put_events x j its.events) s.bytes s.count ∙ sym (events-then b₀ k₀ s.sent its.events);
      rest = goes_on i k xs ts bs r m u c s.sent l S ∙ s.rest;
    }
      where
        counted : (m : ℕ) → m ≡ k + length its.events → m ≡ k₀ + length (s.sent ++ its.events)
        counted m a = let d = s.count in omega (arith, length-append s.sent its.events)

    -- the loop is over
    pub ended : length xs ≤ i → Walks k₀ xs₀ t₀ b₀ k xs ts bs
    ended over =
        let all : record { items = xs; table = table_of width ts; events = s.sent } ≡ whole = sym (all_done i xs ts s.sent over) ∙ s.rest in
        record {
          items = ap (λ (l : Listed). l.items) all;
          table = record { shape = s.good.shape; says = ap (λ (l : Listed). l.table) all };
          events = s.bytes ∙ ap (λ (l : Listed). put_events b₀ k₀ l.events) all;
          count = s.count ∙ ap (λ (l : Listed). k₀ + length l.events) all;
        }

-- the buffer of the events keeps its length
pub walks-length : (k : ℕ) (xs : List Item) (t b : List ℕ) (s : ℕ) (ys : List Item) (u c : List ℕ) → Walks k xs t b s ys u c → length c ≡ length b
walks-length k xs t b s ys u c W =
    ap (λ (x : List ℕ). length x) W.events ∙ put-elements-length (event_layout width) b 0 k (map event_fields (serve_list (table_of width t) xs).events)

-- the whole list: the items are served behind no events, and c has their count too
module _ (xs : List Item) (t b : List ℕ) (P : Passed xs t b) where
  pub list-room : Room (0 + length (serve_list (table_of width t) xs).events) b
  list-room = let m = list-few (table_of width t) xs P.good.sounds in let r = P.room in omega arith

  list-served : (a : Accepted) (ys : List Item) (u d c : List ℕ) (s : ℕ) → Walks 0 xs t b s ys u d → a ≡ record { handle = handle 0; events = s } → c ≡ put_be 4 d 0 s → ServesList xs t b (answer_to (Ok a)) ys u c
  unfolding list_outcome list_items events_over put_array
  list-served a ys u d c s W q e =
      let counted : s ≡ length (serve_list (table_of width t) xs).events = W.count ∙ zero-add (length (serve_list (table_of width t) xs).events) in
      record {
        call = rw P.none (record {
          answer = ap (λ (x : Accepted). answer_to (Ok x)) q ∙ ap {B = Answer} (λ (m : ℕ). record { refusal = 0; handle = 0; events = m }) counted;
          same = λ z. absurd z;
          table = λ z.
              let many : length (locks_of width u) ≡ length (serve_list (table_of width t) xs).table.locks = ap (λ (X : Table). length X.locks) W.table.says in
              record { shape = subst (λ (m : ℕ). Shape m u) (sym (locks-length u) ∙ many) W.table.shape; says = W.table.says };
          events = e ∙ ap₂ (λ (x : List ℕ) (m : ℕ). put_be 4 x 0 m) W.events (counted ∙ sym (length-map (serve_list (table_of width t) xs).events event_fields));
        });
        items = rw P.none W.items;
      }

  -- the same of bytes that are equal to those
  pub list-served-at : (a : Accepted) (ys : List Item) (u v d c e : List ℕ) (s : ℕ) → Walks 0 xs t b s ys u d → a ≡ record { handle = handle 0; events = s } → c ≡ put_be 4 d 0 s → v ≡ u → e ≡ c → ServesList xs t b (answer_to (Ok a)) ys v e
  list-served-at a ys u v d c e s W q f g h =
      subst (λ (x : List ℕ). ServesList xs t b (answer_to (Ok a)) ys x e) (sym g) (list-served a ys u d e s W q (h ∙ f))
