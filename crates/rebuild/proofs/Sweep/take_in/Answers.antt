use Rattle.std.proofs.Common.{rules, ◌≡◌, ◌≤◌, ◌<◌, ℕ, length, arith}
use Rattle.xdr.specs.Be.{be}
use Rattle.runbytes.proofs.Facts.{log_facts}
use Rattle.order.specs.Places.{place, age_at, PutIn}
use Rattle.order.proofs.Inserting.{put-each, put-rising}
use Rattle.rebuild.proofs.Taking.{taken_in}
use Rattle.rebuild.proofs.Sweep.take_in.Goals as goal

-- fewer than all entries are taken in, so the list has a place for one more
pub put_by_age-requires-clause-room : goal.put_by_age-requires-clause-room
put_by_age-requires-clause-room c =
    let s = c.loop-i.self in
    let v = c.loop-i.invariant in
    let f = log_facts s.log.bytes.now s.log.sound in
    let there : s.taken < length s.order.now = search rules in
    let long : length s.order.now ≡ be 4 s.log.bytes.now 0 = rw v.same v.long in
    omega (arith, f.few, v.walking.few)

pub invariant_of-self-clause-ordered : goal.invariant_of-self-clause-ordered
invariant_of-self-clause-ordered c = c.loop-i.self.ordered

pub invariant_of-self-clause-listed : goal.invariant_of-self-clause-listed
invariant_of-self-clause-listed c =
    let s = c.loop-i.self in
    let e : c.in-Some.field-0.now ≡ place s.order.now s.taken = search rules in
    let there : s.taken < length s.order.now = search rules in
    put-each c.put_by_age.ensures (λ (v : ℕ). v < be 4 s.log.bytes.now 0) s.listed (rw e (s.ordered s.taken there))

pub invariant_of-self-clause-rising : goal.invariant_of-self-clause-rising
invariant_of-self-clause-rising c = put-rising c.put_by_age.ensures c.loop-i.self.rising

pub loop-i-preserved : goal.loop-i-preserved
loop-i-preserved c =
    let s = c.loop-i.self in
    let v = c.loop-i.invariant in
    let log = c.args.self.now.log.bytes.now in
    let e : c.in-Some.field-0.now ≡ place s.order.now s.taken = search rules in
    let there : s.taken < length s.order.now = search rules in
    let early : c.entry.result.first ≤ c.args.x = omega arith in
    let p : PutIn (age_at s.log.bytes.now) s.begun.items c.put_by_age.new.list.items c.in-Some.field-0.now = c.put_by_age.ensures in
    record {
      same = v.same;
      long = v.long;
      sorted = v.sorted;
      walking = taken_in log s.order.now s.begun.items s.taken c.args.x v.walking c.put_by_age.new.list.items (omega (arith, v.long))
          (rw (c.entry.ensures.0, v.same, c.from.ensures, e) at early) (rw (e, v.same) at p);
    }
