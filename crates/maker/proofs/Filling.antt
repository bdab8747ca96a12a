-- The bodies that are measured and those that are left make up the whole; so do the three parts of a sheet, which are laid in
-- together, with the pieces of the blocks that are left put behind what stands in each. Assumes nothing.
use Rattle.std.proofs.Common.{ℕ, ◌+◌, ◌*◌, ◌/◌, ◌%◌, ◌≡◌, ◌≤◌, ◌<◌, ◌∙◌, refl, sym, ap, List, [], ◌∷◌, ◌++◌, length, arith}
use Rattle.std.proofs.Math.ListN.{set, length-append, get_or}
use Rattle.rom.specs.Store.{word_bytes, put}
use Rattle.rom.proofs.Put.{put-none, put-length, put-put, put_one, put_two, put-swap}
use Rattle.sheet.specs.Layout.{head_length}
use Rattle.sheet.specs.Record.{Entry}
use Rattle.sheet.specs.Sheet.{kind_bytes, size_bytes, body_bytes, parts_of}
use Rattle.sheet.proofs.Sheets.{kind-length, size-length}
use Rattle.maker.specs.Blocks.{blocks_left, blocks_end, entries_in}
use Rattle.maker.specs.declared.blocks.Blocks.{Blocks}
use Rattle.maker.proofs.Turns.{Running, running-first, running-last, running-more}
use Rattle.maker.proofs.Sheets.{three-put, parts-long}

-- ## The blocks measured

pub record MeasuredBlocks (all : Blocks) (left : List (ℕ × ℕ × Entry)) (end total : ℕ) : Type 0 where
  pub running : Running all left end
  pub bodies : total + length (body_bytes (entries_in left)) ≡ length (body_bytes (entries_in (blocks_left all)))
  pub less : total ≤ end

pub measured-start : (all : Blocks) {left : List (ℕ × ℕ × Entry)} → left ≡ blocks_left all → MeasuredBlocks all left all.start 0
measured-start all e = record { running = running-first all e; bodies = rw e (omega arith); less = omega arith }

module _ {all : Blocks} {left : List (ℕ × ℕ × Entry)} {end total : ℕ} (i : MeasuredBlocks all left end total) where
  pub measured-end : left ≡ [] → (end ≡ blocks_end all) × (total ≡ length (body_bytes (entries_in (blocks_left all))))
  unfolding body_bytes
  measured-end e = (
    running-last i.running e,
    omega (arith, i.bodies, ap (λ (l : List (ℕ × ℕ × Entry)). length (body_bytes (entries_in l))) e),
  )

  module _ {b : ℕ × ℕ × Entry} {bs : List (ℕ × ℕ × Entry)} (first : left ≡ b ∷ bs) where
    bodies-length : length (body_bytes (entries_in left)) ≡ length b.2.body + length (body_bytes (entries_in bs))
    unfolding body_bytes
    bodies-length =
        ap (λ (l : List (ℕ × ℕ × Entry)). length (body_bytes (entries_in l))) first ∙ length-append b.2.body (body_bytes (entries_in bs))

    pub measured-more : MeasuredBlocks all bs (b.0 + b.1) (total + length b.2.body)
    measured-more =
        let t = running-more i.running first in
        record {
          running = t.running;
          bodies = omega (arith, i.bodies, bodies-length);
          less = omega (arith, i.less, t.here, t.body);
        }

-- ## Three parts, each at its own place

abbrev three_at : List ℕ → ℕ → List ℕ → ℕ → List ℕ → ℕ → List ℕ → List ℕ
three_at sheet a x b y c z = put (put (put sheet a x) b y) c z

pub three-long : (sheet : List ℕ) (a : ℕ) (x : List ℕ) (b : ℕ) (y : List ℕ) (c : ℕ) (z : List ℕ) → a + length x ≤ length sheet
    → b + length y ≤ length sheet → c + length z ≤ length sheet → length (three_at sheet a x b y c z) ≡ length sheet
three-long sheet a x b y c z h₁ h₂ h₃ =
    let one = put-length sheet a x h₁ in
    let two = put-length (put sheet a x) b y (omega (arith, one)) in
    put-length (put (put sheet a x) b y) c z (omega (arith, one, two)) ∙ two ∙ one

-- a piece for each, and then the rests of them
module _ (sheet : List ℕ) (a : ℕ) (x x' : List ℕ) (b : ℕ) (y y' : List ℕ) (c : ℕ) (z z' : List ℕ)
    (first : (a + length x) + length x' ≤ b) (second : (b + length y) + length y' ≤ c)
    (third : (c + length z) + length z' ≤ length sheet) where
  abbrev one : List ℕ
  one = put sheet a x

  one-long : length one ≡ length sheet
  one-long = put-length sheet a x (omega arith)

  abbrev two : List ℕ
  two = put one b y

  two-long : length two ≡ length sheet
  two-long = put-length one b y (omega (arith, one-long)) ∙ one-long

  abbrev kinds : List ℕ
  kinds = put sheet a (x ++ x')

  kinds-long : length kinds ≡ length sheet
  kinds-long = put-length sheet a (x ++ x') (omega (arith, length-append x x'))

  first-joined : put (put two c z) (a + length x) x' ≡ put (put kinds b y) c z
  first-joined =
      put-swap two (a + length x) x' c z (omega arith) (omega (arith, two-long))
      ∙ ap (λ (l : List ℕ). put l c z)
      (put-swap one (a + length x) x' b y first (omega (arith, one-long))
      ∙ ap (λ (l : List ℕ). put l b y) (put-put sheet a x x' (omega arith)))

  second-joined : put (put (put kinds b y) c z) (b + length y) y' ≡ put (put kinds b (y ++ y')) c z
  second-joined =
      put-swap (put kinds b y) (b + length y) y' c z second
      (omega (arith, put-length kinds b y (omega (arith, kinds-long)), kinds-long))
      ∙ ap (λ (l : List ℕ). put l c z) (put-put kinds b y y' (omega (arith, kinds-long)))

  three-more : three_at (three_at sheet a x b y c z) (a + length x) x' (b + length y) y' (c + length z) z'
      ≡ three_at sheet a (x ++ x') b (y ++ y') c (z ++ z')
  three-more =
      let sizes = put kinds b (y ++ y') in
      ap (λ (l : List ℕ). put (put l (b + length y) y') (c + length z) z') first-joined
      ∙ ap (λ (l : List ℕ). put l (c + length z) z') second-joined
      ∙ put-put sizes c z z' (omega (arith, put-length kinds b (y ++ y') (omega (arith, kinds-long, length-append y y')), kinds-long))

-- the stores of `put_entry`, before its copy
pub three-stores : (sheet : List ℕ) (kind a b n : ℕ) {bytes : List ℕ} → a + 2 ≤ length sheet → b + 1 ≤ length sheet → kind < 65536
    → bytes ≡ kind % 256 ∷ kind / 256 % 256 ∷ []
    → set (set (set sheet a (get_or bytes 0 0)) (a + 1) (get_or bytes 1 0)) b n ≡ put (put sheet a (word_bytes kind)) b (n ∷ [])
unfolding word_bytes
three-stores sheet kind a b n {bytes} h g low e =
    let high : kind / 256 % 256 ≡ kind / 256 = omega arith in
    let word = put_two sheet a (kind % 256) (kind / 256) h in
    rw (e, high) (ap (λ (l : List ℕ). set l b n) word
    ∙ put_one (put sheet a (word_bytes kind)) b n (omega (arith, put-length sheet a (word_bytes kind) h)))

-- ## What the pass keeps: where the next kind, size and body go

-- the parts of entries, each at its place
abbrev parts_at : List ℕ → ℕ → ℕ → ℕ → List Entry → List ℕ
parts_at sheet kind size body es = three_at sheet kind (kind_bytes es) size (size_bytes es) body (body_bytes es)

pub record Filling (sheet₀ : List ℕ) (all left : List Entry) (sheet : List ℕ) (kind size body : ℕ) : Type 0 where
  pub filled : parts_at sheet kind size body left ≡ put sheet₀ head_length (parts_of all)
  pub kinds : kind + 2 * length left ≤ size
  pub sizes : size + length left ≤ body
  pub bodies : body + length (body_bytes left) ≤ length sheet
  pub same : length sheet ≡ length sheet₀

pub filling-start : {sheet : List ℕ} {all left : List Entry} → left ≡ all → {n : ℕ} → n ≡ length all
    → head_length + length (parts_of all) ≤ length sheet
    → Filling sheet all left sheet head_length (head_length + 2 * n) (head_length + 2 * n + n)
unfolding parts_of
filling-start {sheet} {all} e {n} en r =
    let a : head_length + 2 * n ≡ head_length + length (kind_bytes all) = omega (arith, kind-length all) in
    let b : head_length + 2 * n + n ≡ head_length + 2 * n + length (size_bytes all) = omega (arith, size-length all) in
    rw e (record {
      filled = three-put sheet head_length (kind_bytes all) (size_bytes all) (body_bytes all) r refl a refl b refl;
      kinds = omega arith;
      sizes = omega arith;
      bodies = omega (arith, r, parts-long all, en);
      same = refl;
    })

module _ {sheet₀ : List ℕ} {all left : List Entry} {sheet : List ℕ} {kind size body : ℕ}
    (i : Filling sheet₀ all left sheet kind size body) where
  pub filling-end : left ≡ [] → sheet ≡ put sheet₀ head_length (parts_of all)
  unfolding kind_bytes size_bytes body_bytes
  filling-end e =
      sym (put-none sheet kind) ∙ sym (put-none _ size) ∙ sym (put-none _ body) ∙ ap (parts_at sheet kind size body) (sym e) ∙ i.filled

  module _ {e : Entry} {es : List Entry} (first : left ≡ e ∷ es) where
    bodies-are : length (body_bytes left) ≡ length e.body + length (body_bytes es)
    unfolding body_bytes
    bodies-are = ap (λ (l : List Entry). length (body_bytes l)) first ∙ length-append e.body (body_bytes es)

    pub fill-room : (kind + 2 ≤ length sheet) × (size + 1 ≤ length sheet) × (body + length e.body ≤ length sheet)
    fill-room = (
      omega (arith, i.kinds, i.sizes, i.bodies, ap length first),
      omega (arith, i.sizes, i.bodies, ap length first),
      omega (arith, i.bodies, bodies-are),
    )

    pub filling-more : {next : List ℕ} → next ≡ put (put (put sheet kind (word_bytes e.kind)) size (length e.body ∷ [])) body e.body
        → Filling sheet₀ all es next (kind + 2) (size + 1) (body + length e.body)
    unfolding word_bytes kind_bytes size_bytes body_bytes
    filling-more {next} en =
        let r = fill-room in
        let long : length next ≡ length sheet
        = ap length en ∙ three-long sheet kind (word_bytes e.kind) size (length e.body ∷ []) body e.body r.0 r.1 r.2 in
        let joined = three-more sheet kind (word_bytes e.kind) (kind_bytes es) size (length e.body ∷ []) (size_bytes es) body e.body
        (body_bytes es)
        (omega (arith, i.kinds, ap length first, kind-length es)) (omega (arith, i.sizes, ap length first, size-length es))
        (omega (arith, i.bodies, bodies-are)) in
        record {
          filled =
              ap (λ (l : List ℕ). parts_at l (kind + 2) (size + 1) (body + length e.body) es) en ∙ joined
              ∙ ap (parts_at sheet kind size body) (sym first) ∙ i.filled;
          kinds = omega (arith, i.kinds, ap length first);
          sizes = omega (arith, i.sizes, ap length first);
          bodies = omega (arith, i.bodies, bodies-are, long);
          same = long ∙ i.same;
        }

-- over blocks: the next of those that are left stands at the running start
pub record FillingBlocks (all : Blocks) (left : List (ℕ × ℕ × Entry)) (sheet₀ sheet : List ℕ) (kind size body : ℕ) : Type 0 where
  pub start : ℕ
  pub running : Running all left start
  pub filling : Filling sheet₀ (entries_in (blocks_left all)) (entries_in left) sheet kind size body
