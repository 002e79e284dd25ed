-- How pages look (own). No colour says what no word says, and nothing is fetched from elsewhere.
use Rattle.std.specs.Prelude.{ℕ, List, ◌++◌, codes}

unfoldable pub light_style : List ℕ
light_style = codes ":root{color-scheme:light dark;--ink:#1c2330;--dim:#566070;--paper:#ffffff;--card:#f3f5f8;--line:#c9d1dc;--up:#1b6e37;--way:#7a5200;--down:#a8231b;--key:#1d4f9e}\n"

unfoldable pub dark_style : List ℕ
dark_style = codes "@media (prefers-color-scheme:dark){:root{--ink:#e6e9ef;--dim:#a3adba;--paper:#14181f;--card:#1e2530;--line:#414c5b;--up:#77d494;--way:#e6ba62;--down:#ff938a;--key:#93baf9}}\n"

unfoldable pub text_style : List ℕ
text_style = codes "body{margin:1.5rem auto;padding:0 1rem;max-width:76rem;font:1rem/1.45 system-ui,sans-serif;color:var(--ink);background:var(--paper)}\nh1{font-size:1.35rem;margin:0 0 .3rem}\ncode{font:.93em/1.3 ui-monospace,monospace}\np,ul{margin:.3rem 0}\nsmall{color:var(--dim)}\n.legend{color:var(--dim);font-size:.9rem}\n"

unfoldable pub tree_style : List ℕ
tree_style = codes ".tree ul{list-style:none;padding:0 0 0 1rem;margin:0 0 .3rem .4rem;border-left:2px solid var(--line)}\n.tree li{padding:.15rem 0}\n.tree li>code{display:inline-block;min-width:11rem;margin-right:.5rem;font-weight:600}\n.flags{padding:.25rem .6rem;background:var(--card);border-left:.25rem solid var(--key);break-inside:avoid}\n.flags b{color:var(--key);margin-right:.6rem}\n"

unfoldable pub map_style : List ℕ
map_style = codes ".map{font-size:.93rem}\n.map ul{list-style:none;display:flex;flex-wrap:wrap;gap:.4rem;padding:.4rem;margin:0}\n.map li{padding:.2rem .5rem;border:1px solid var(--line);border-radius:.4rem}\n.map li:has(>ul){flex-basis:100%}\n.map summary{cursor:pointer}\n.map summary code{margin-right:.5rem}\n.map small{margin-left:.4rem}\n.map details p{padding-left:1rem;color:var(--dim)}\n.map details[open]>summary{color:var(--down);font-weight:700}\n.map li:has(>details[open]),.map .one_for_all:has(>li:not(.is_temporary)>details[open])>li,.map .rest_for_one>li:not(.is_temporary):has(>details[open])~li{border-color:var(--down);background:var(--card);box-shadow:0 0 0 1px var(--down)}\n"

unfoldable pub run_style : List ℕ
run_style = codes ".verdict{padding:.25rem .6rem;background:var(--card);border-left:.25rem solid var(--key);font-weight:600}\n.axis,.tracks,.window{display:block;width:100%;fill:var(--ink);overflow:visible}\n.axis{height:1.4rem;font-size:.8rem;position:sticky;top:0;background:var(--paper)}\n.axis text{text-anchor:middle}\n.axis text:first-child{text-anchor:start}\n.axis .last{text-anchor:end}\n.tracks{font-size:2rem}\n.tracks text{font-size:.45em}\n.tracks rect{transform:translateY(.54em)}\n.tracks line,.window line{stroke:var(--line)}\n.on{fill:var(--up)}\n.off{fill:var(--card);stroke:var(--line)}\n.crash{fill:var(--down);color:var(--down)}\n.along{fill:var(--way);color:var(--way)}\n.window{height:2.5rem;border-bottom:1px solid var(--dim);margin-bottom:.6rem}\n.used{fill:var(--key)}\n.full{fill:var(--way);color:var(--way)}\n.fall{fill:var(--down)}\ndetails>summary{cursor:pointer}\n"

unfoldable pub tags_style : List ℕ
tags_style = codes ".tag{display:inline-block;padding:0 .5em;margin-right:.4rem;border:1px solid var(--line);border-radius:.7em;font-size:.85rem}\n.permanent{border-color:currentColor;color:var(--up)}\n.transient{border-color:currentColor;color:var(--way)}\n.temporary{border-style:dashed;border-color:currentColor;color:var(--dim)}\n.significant{border-color:currentColor;color:var(--down)}\n"

unfoldable pub tables_style : List ℕ
tables_style = codes "table{border-collapse:collapse;margin:.8rem 0;font-size:.93rem}\nth,td{min-width:5rem;padding:.3rem .6rem;border-bottom:1px solid var(--line);text-align:left;vertical-align:top}\nthead th{border-bottom:2px solid var(--ink)}\ntr{break-inside:avoid}\n.n{text-align:right;white-space:nowrap}\ntd small,th small{display:block;font-weight:400}\nth code,td code{overflow-wrap:anywhere}\n.line{min-width:15rem}\n"

unfoldable pub marks_style : List ℕ
marks_style = codes ".bar{width:5rem;height:.6rem;margin-right:.5rem}\n.bar rect{fill:var(--key)}\n.bar .all{fill:var(--line)}\n.up{color:var(--up)}\n.way{color:var(--way)}\n.down{color:var(--down)}\n.chip{display:inline-block;margin:0 .7rem .1rem 0;white-space:nowrap;font:.9em/1.4 ui-monospace,monospace}\n.new{font-weight:700;text-decoration:underline}\n.end{display:block;color:var(--down);font-size:.88rem}\n@media print{body{margin:0;max-width:none;font-size:10pt}}\n"

-- the whole
unfoldable pub style : List ℕ
style = light_style ++ dark_style ++ text_style ++ tree_style ++ map_style ++ run_style ++ tags_style ++ tables_style ++ marks_style
