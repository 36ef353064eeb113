use Rattle.std.proofs.Common.{rules, FitsSigned}
use Rattle.std.specs.Int.{w128}
use Rattle.std.proofs.lemmas.Int.{to_z-of_z}
use Rattle.linear.proofs.ResultRangeLemmas.{corners_are}
use Rattle.linear.proofs.result_ranges.corners.Goals as goal

pub returns : goal.returns
returns c =
    let ra = to_z-of_z w128 c.args.left_least c.ranges.left_least in
    let rb = to_z-of_z w128 c.args.left_greatest c.ranges.left_greatest in
    let rc = to_z-of_z w128 c.args.right_least c.ranges.right_least in
    let rd = to_z-of_z w128 c.args.right_greatest c.ranges.right_greatest in
    let f1 : FitsSigned w128 c.in_ok-ca.ca = search rules in
    let f2 : FitsSigned w128 c.in_ok-da.da = search rules in
    let f3 : FitsSigned w128 c.in_ok-cb.cb = search rules in
    let f4 : FitsSigned w128 c.in_ok-db.db = search rules in
    let fl : FitsSigned w128 c.least_of_four-low.result = search rules in
    let fh : FitsSigned w128 c.greatest_of_four-high.result = search rules in
    let s1 = to_z-of_z w128 c.in_ok-ca.ca f1 in
    let s2 = to_z-of_z w128 c.in_ok-da.da f2 in
    let s3 = to_z-of_z w128 c.in_ok-cb.cb f3 in
    let s4 = to_z-of_z w128 c.in_ok-db.db f4 in
    let l = c.least_of_four-low.ensures in
    let h = c.greatest_of_four-high.ensures in
    rw (to_z-of_z w128 c.least_of_four-low.result fl, to_z-of_z w128 c.greatest_of_four-high.result fh)
    (corners_are c.args.left_least c.args.left_greatest c.args.right_least c.args.right_greatest c.in_ok-ca.ca c.in_ok-da.da c.in_ok-cb.cb c.in_ok-db.db c.least_of_four-low.result c.greatest_of_four-high.result
    (rw (rc, ra) at c.in_ok-ca.ensures) (rw (rd, ra) at c.in_ok-da.ensures) (rw (rc, rb) at c.in_ok-cb.ensures) (rw (rd, rb) at c.in_ok-db.ensures)
    (record {
      low_p = rw s1 at l.first;
      low_q = rw s2 at l.second;
      low_s = rw s3 at l.third;
      low_t = rw s4 at l.fourth;
      high_p = rw s1 at h.first;
      high_q = rw s2 at h.second;
      high_s = rw s3 at
          h.third;
      high_t = rw s4 at h.fourth;
    }))
