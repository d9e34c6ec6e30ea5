mod Differences
